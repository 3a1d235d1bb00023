-- A member put among others.
use Rattle.std.proofs.Common.{◌≡◌, ◌⊎◌, List, [], ◌∷◌, true, false, cond, Some, Ordering, Less, Equal, Greater, nat_cmp, refl, sym, ap, ◌∙◌, inl, inr}
use Rattle.std.proofs.lemmas.Map.Lookups.{exact_bytes}
use Rattle.std.proofs.lemmas.Map.Text.{is_eq-slice_cmp}
use Rattle.std.specs.Cmp.Lexicographic.{slice_cmp}
use Rattle.std.specs.List.{filter}
use Rattle.std.specs.Ordering.{match_ordering, is_eq}
use Rattle.definitions.specs.Values.{Text, Value, object, members, members_list, to_members, entry, is_object, same_text}
use Rattle.definitions.specs.Alike.{unbundled_value}
use Rattle.definitions.specs.Bundles.{put_member, with_member}
use Rattle.lemmas.proofs.Texts.{same_text_itself}
use Rattle.definition_laws.proofs.Occurrences.{IsIn}
use Rattle.definition_laws.proofs.Unbundled.{is_changed, is_kept, members_back}

abbrev put_by : Ordering → Text → Value → Text × Value → List (Text × Value) → List (Text × Value)
put_by o n v m ms = match_ordering o ((n, v) ∷ m ∷ ms) ((n, v) ∷ ms) (m ∷ put_member n v ms)

pub put_in : (n : Text) (v : Value) (ms : List (Text × Value)) → IsIn (n, v) (put_member n v ms)
put_in n v [] = inl refl
put_in n v (m ∷ ms) = by (slice_cmp nat_cmp n m.0) (put_in n v ms)
  where
    by : (o : Ordering) → IsIn (n, v) (put_member n v ms) → IsIn (n, v) (put_by o n v m ms)
    by Less later = inl refl
    by Equal later = inl refl
    by Greater later = inr later

pub put_beside : (n : Text) (v : Value) (ms : List (Text × Value)) (x : Text × Value) → IsIn x ms → (x.0 ≡ n → ⊥) → IsIn x (put_member n v ms)
put_beside n v [] x i other = absurd i
put_beside n v (m ∷ ms) x i other = by (slice_cmp nat_cmp n m.0) refl i (λ j. put_beside n v ms x j other)
  where
    by : (o : Ordering) → slice_cmp nat_cmp n m.0 ≡ o → IsIn x (m ∷ ms) → (IsIn x ms → IsIn x (put_member n v ms)) → IsIn x (put_by o n v m ms)
    by Less e j later = inr j
    by Equal e (inl f) later = absurd (other (sym (ap (λ y. y.0) f) ∙ sym (exact_bytes n m.0 e)))
    by Equal e (inr j) later = inr j
    by Greater e (inl f) later = inl f
    by Greater e (inr j) later = inr (later j)

pub put_from : (n : Text) (v : Value) (ms : List (Text × Value)) (x : Text × Value) → IsIn x (put_member n v ms) → ((n, v) ≡ x) ⊎ IsIn x ms
put_from n v [] x (inl e) = inl e
put_from n v [] x (inr i) = absurd i
put_from n v (m ∷ ms) x i = by (slice_cmp nat_cmp n m.0) i (put_from n v ms x)
  where
    by : (o : Ordering) → IsIn x (put_by o n v m ms) → (IsIn x (put_member n v ms) → ((n, v) ≡ x) ⊎ IsIn x ms) → ((n, v) ≡ x) ⊎ IsIn x (m ∷ ms)
    by Less (inl e) later = inl e
    by Less (inr j) later = inr j
    by Equal (inl e) later = inl e
    by Equal (inr j) later = inr (inr j)
    by Greater (inl e) later = inr (inl e)
    by Greater (inr j) later = elim (later j) [ inl e ↦ inl e | inr k ↦ inr (inr k) ]

pub put_kept : (n : Text) (v : Value) (ms : List (Text × Value)) → is_changed n ≡ true → filter is_kept (put_member n v ms) ≡ filter is_kept ms
put_kept n v [] h = rw h refl
put_kept n v (m ∷ ms) h = by (slice_cmp nat_cmp n m.0) refl (put_kept n v ms h)
  where
    by : (o : Ordering) → slice_cmp nat_cmp n m.0 ≡ o → filter is_kept (put_member n v ms) ≡ filter is_kept ms → filter is_kept (put_by o n v m ms) ≡ filter is_kept (m ∷ ms)
    by Less e later = rw h refl
    by Equal e later =
        let same : is_changed m.0 ≡ true = ap is_changed (sym (exact_bytes n m.0 e)) ∙ h in
        rw (h, same) refl
    by Greater e later = ap (λ rest. cond (is_kept m) (m ∷ rest) rest) later

pub put_entry : (n : Text) (v : Value) (ms : List (Text × Value)) → entry n (put_member n v ms) ≡ Some v
put_entry n v [] = rw (same_text_itself n) refl
put_entry n v (m ∷ ms) = by (slice_cmp nat_cmp n m.0) refl (put_entry n v ms)
  where
    by : (o : Ordering) → slice_cmp nat_cmp n m.0 ≡ o → entry n (put_member n v ms) ≡ Some v → entry n (put_by o n v m ms) ≡ Some v
    by Less e later = rw (same_text_itself n) refl
    by Equal e later = rw (same_text_itself n) refl
    by Greater e later = let differs : same_text n m.0 ≡ false = sym (is_eq-slice_cmp n m.0) ∙ ap is_eq e in rw differs later

pub put_other_entry : (k n : Text) (v : Value) (ms : List (Text × Value)) → same_text k n ≡ false → entry k (put_member n v ms) ≡ entry k ms
put_other_entry k n v [] h = rw h refl
put_other_entry k n v (m ∷ ms) h = by (slice_cmp nat_cmp n m.0) refl (put_other_entry k n v ms h)
  where
    by : (o : Ordering) → slice_cmp nat_cmp n m.0 ≡ o → entry k (put_member n v ms) ≡ entry k ms → entry k (put_by o n v m ms) ≡ entry k (m ∷ ms)
    by Less e later = rw h refl
    by Equal e later =
        let same : same_text k m.0 ≡ false = ap (same_text k) (sym (exact_bytes n m.0 e)) ∙ h in
        rw (h, same) refl
    by Greater e later = ap (cond (same_text k m.0) (Some m.1)) later

-- ---- in an object
pub members_with : (n : Text) (v x : Value) → is_object x ≡ true → members (with_member n v x) ≡ put_member n v (members x)
members_with n v (object ms) h = members_back (put_member n v (members_list ms))
members_with n v _ h = absurd (cc)

pub is_object-with : (n : Text) (v x : Value) → is_object x ≡ true → is_object (with_member n v x) ≡ true
is_object-with n v (object ms) h = refl
is_object-with n v _ h = absurd (cc)

pub unbundled-with : (n : Text) (v x : Value) → is_object x ≡ true → is_changed n ≡ true → unbundled_value (with_member n v x) ≡ unbundled_value x
unbundled-with n v (object ms) h c =
    ap (λ ns. object (to_members ns)) (ap (filter is_kept) (members_back (put_member n v (members_list ms))) ∙ put_kept n v (members_list ms) c)
unbundled-with n v _ h c = absurd (cc)
