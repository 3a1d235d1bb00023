-- The keys of tenants, and the first that stands twice.
use Rattle.std.proofs.Common.{◌≡◌, ◌<◌, ◌+◌, ◌-◌, ◌||◌, ℕ, List, [], ◌∷◌, Bool, true, false, map, get_or, take, drop, length, string_bytes, refl, sym, ap, ◌∙◌}
use Rattle.std.proofs.lemmas.List.{drop_more, take_rest}
use Rattle.std.specs.List.{list_all, list_any}
use Rattle.std.proofs.lemmas.List.Folds.{list_all-map}
use Rattle.lemmas.proofs.Lists.{list_any-map}
use Rattle.definitions.specs.Lists.{has_repeat}
use Rattle.definitions.specs.Tenants.{is_key}
use Rattle.definitions.specs.Values.{Text, same_text}
use Rattle.tenants_file.specs.Tenants.{tenant_view}
use Rattle.tenants_file.specs.declared.tenants.Tenant.{Tenant}

-- ---- as the definitions have them
pub are_keys-view : (ts : List Tenant) → list_all (λ t. is_key t.key) (map tenant_view ts) ≡ list_all (λ t. is_key (string_bytes t.key)) ts
are_keys-view ts = list_all-map (λ t. is_key t.key) tenant_view ts

pub keys-view : (ts : List Tenant) → map (λ t. t.key) (map tenant_view ts) ≡ map (λ t. string_bytes t.key) ts
keys-view [] = refl
keys-view (t ∷ ts) = ap (λ ks. string_bytes t.key ∷ ks) (keys-view ts)

-- ---- the first that stands twice
abbrev keys_of : List Tenant → List Text
keys_of ts = map (λ t. string_bytes t.key) ts

abbrev repeats : List Tenant → Bool
repeats ts = has_repeat same_text (keys_of ts)

abbrev have_key : Text → List Tenant → Bool
have_key key ts = list_any (λ t. same_text key (string_bytes t.key)) ts

-- those after the one at i, as a slice gives them
abbrev after : List Tenant → ℕ → List Tenant
after ts i = take (length ts - (i + 1)) (drop (i + 1) ts)

at_place : (ts : List Tenant) (i : ℕ) (t : Tenant) (key : Text) → i < length ts → t ≡ get_or ts i t → key ≡ string_bytes t.key
    → repeats (drop i ts) ≡ (have_key key (after ts i) || repeats (drop (i + 1) ts))
at_place ts i t key lt is same =
    ap repeats (drop_more ts i t lt ∙ ap (λ u. u ∷ drop (i + 1) ts) (sym is))
    ∙ ap (λ b. b || repeats (drop (i + 1) ts)) (
    list_any-map (same_text (string_bytes t.key)) (λ u. string_bytes u.key) (drop (i + 1) ts)
    ∙ ap (λ k. have_key k (drop (i + 1) ts)) (sym same) ∙ ap (have_key key) (sym (take_rest ts (i + 1))))

pub repeats_here : (ts : List Tenant) (i : ℕ) (t : Tenant) (key : Text) → i < length ts → t ≡ get_or ts i t → key ≡ string_bytes t.key
    → repeats (drop i ts) ≡ repeats ts → have_key key (after ts i) ≡ true → true ≡ repeats ts
repeats_here ts i t key lt is same so_far e =
    sym (ap (λ b. b || repeats (drop (i + 1) ts)) e) ∙ sym (at_place ts i t key lt is same) ∙ so_far

pub repeats_later : (ts : List Tenant) (i : ℕ) (t : Tenant) (key : Text) → i < length ts → t ≡ get_or ts i t → key ≡ string_bytes t.key
    → repeats (drop i ts) ≡ repeats ts → have_key key (after ts i) ≡ false → repeats (drop (i + 1) ts) ≡ repeats ts
repeats_later ts i t key lt is same so_far e =
    sym (ap (λ b. b || repeats (drop (i + 1) ts)) e) ∙ sym (at_place ts i t key lt is same) ∙ so_far
