-- The digests of keys, and the first that stands twice.
use Rattle.std.proofs.Common.{◌≡◌, ◌<◌, ◌+◌, ◌-◌, ◌||◌, ℕ, List, [], ◌∷◌, Bool, true, false, Some, map, option_map, slice_get, get_or, take, drop, length, string_bytes, refl, sym, ap, ◌∙◌}
use Rattle.std.proofs.lemmas.List.{drop_more, take_rest}
use Rattle.std.proofs.lemmas.Option.{slice_get-map, slice_get_read}
use Rattle.std.specs.List.{list_any}
use Rattle.lemmas.proofs.Lists.{list_any-map}
use Rattle.definitions.specs.Lists.{has_repeat}
use Rattle.definitions.specs.Services.{KeyedRegistry}
use Rattle.definitions.specs.Values.{Text, same_text}
use Rattle.stored_rows.specs.Restoring.{emptied}
use Rattle.stored_rows.specs.Rows.{digest}
use Rattle.stored_rows.proofs.KeyedRegistries.{emptied_digests}
use Rattle.stored_hub.specs.DigestedKeys.{digests_in}
use Rattle.stored_hub.specs.RefusedOpenings.{digests_of}
use Rattle.stored_hub.specs.declared.digested_key.DigestedKey.{DigestedKey}

pub digests_of_keys : (ks : List KeyedRegistry) → map digest (map (λ k. k.key) ks) ≡ map (λ k. digest k.key) ks
digests_of_keys [] = refl
digests_of_keys (k ∷ ks) = ap (λ ts. digest k.key ∷ ts) (digests_of_keys ks)

-- ---- the first that stands twice
abbrev repeats : List DigestedKey → Bool
repeats ks = has_repeat same_text (digests_in ks)

abbrev have_digest : Text → List DigestedKey → Bool
have_digest tenant ks = list_any (λ k. same_text tenant (string_bytes k.tenant)) ks

-- those after the one at i, as a slice gives them
abbrev after : List DigestedKey → ℕ → List DigestedKey
after ks i = take (length ks - (i + 1)) (drop (i + 1) ks)

at_place : (ks : List DigestedKey) (i : ℕ) (k : DigestedKey) (tenant : Text) → i < length ks → k ≡ get_or ks i k → tenant ≡ string_bytes k.tenant
    → repeats (drop i ks) ≡ (have_digest tenant (after ks i) || repeats (drop (i + 1) ks))
at_place ks i k tenant lt is same =
    ap repeats (drop_more ks i k lt ∙ ap (λ u. u ∷ drop (i + 1) ks) (sym is))
    ∙ ap (λ b. b || repeats (drop (i + 1) ks)) (
    list_any-map (same_text (string_bytes k.tenant)) (λ u. string_bytes u.tenant) (drop (i + 1) ks)
    ∙ ap (λ t. have_digest t (drop (i + 1) ks)) (sym same) ∙ ap (have_digest tenant) (sym (take_rest ks (i + 1))))

pub repeats_here : (ks : List DigestedKey) (i : ℕ) (k : DigestedKey) (tenant : Text) → i < length ks → k ≡ get_or ks i k → tenant ≡ string_bytes k.tenant
    → repeats (drop i ks) ≡ repeats ks → have_digest tenant (after ks i) ≡ true → true ≡ repeats ks
repeats_here ks i k tenant lt is same so_far e =
    sym (ap (λ b. b || repeats (drop (i + 1) ks)) e) ∙ sym (at_place ks i k tenant lt is same) ∙ so_far

pub repeats_later : (ks : List DigestedKey) (i : ℕ) (k : DigestedKey) (tenant : Text) → i < length ks → k ≡ get_or ks i k → tenant ≡ string_bytes k.tenant
    → repeats (drop i ks) ≡ repeats ks → have_digest tenant (after ks i) ≡ false → repeats (drop (i + 1) ks) ≡ repeats ks
repeats_later ks i k tenant lt is same so_far e =
    sym (ap (λ b. b || repeats (drop (i + 1) ks)) e) ∙ sym (at_place ks i k tenant lt is same) ∙ so_far

-- the one at i
pub digest_at : (ks : List DigestedKey) (i : ℕ) (k : DigestedKey) (tenant : Text) → i < length ks → k ≡ get_or ks i k → tenant ≡ string_bytes k.tenant
    → slice_get (digests_in ks) i ≡ Some tenant
digest_at ks i k tenant lt is same =
    slice_get-map (λ u. string_bytes u.tenant) ks i ∙ ap (option_map (λ u. string_bytes u.tenant)) (slice_get_read ks (length ks) i k refl lt is) ∙ ap Some (sym same)

-- ---- of the registries
pub digests_stay : (ks ms : List KeyedRegistry) → emptied ms ≡ emptied ks → digests_of ms ≡ digests_of ks
digests_stay ks ms e = sym (emptied_digests ms) ∙ ap digests_of e ∙ emptied_digests ks

-- what is left decides
pub not_here : (ks : List DigestedKey) (i : ℕ) (k : DigestedKey) (tenant : Text) → i < length ks → k ≡ get_or ks i k → same_text tenant (string_bytes k.tenant) ≡ false
    → list_any (same_text tenant) (digests_in (drop i ks)) ≡ list_any (same_text tenant) (digests_in (drop (i + 1) ks))
not_here ks i k tenant lt is other =
    ap (λ us. list_any (same_text tenant) (digests_in us)) (drop_more ks i k lt ∙ ap (λ u. u ∷ drop (i + 1) ks) (sym is))
    ∙ ap (λ b. b || list_any (same_text tenant) (digests_in (drop (i + 1) ks))) other
