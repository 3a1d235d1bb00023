-- What is collected of a schema and of all schemas below it.
use Rattle.std.proofs.Common.{◌≡◌, ◌<◌, ℕ, zero, suc, List, [], ◌∷◌, ◌++◌, true, false, cond, map, Some, None, Ordering, Less, Equal, Greater, nat_cmp, refl, sym, ap, subst, ◌∙◌, arith, inl, inr, append_assoc}
use Rattle.std.proofs.lemmas.Cmp.{nat_list_cmp_total}
use Rattle.std.proofs.lemmas.Map.Lookups.{exact_bytes}
use Rattle.std.proofs.lemmas.Map.Text.{is_eq-slice_cmp}
use Rattle.std.proofs.lemmas.List.Sorted.{IsPermutation-refl, IsPermutation-trans, IsPermutation-append, IsPermutation-append_comm, IsPermutation-append_right}
use Rattle.std.specs.Cmp.Lexicographic.{slice_cmp}
use Rattle.std.specs.List.{flat_map}
use Rattle.std.specs.List.Sorted.{IsPermutation}
use Rattle.std.specs.Ordering.{match_ordering, is_eq}
use Rattle.definitions.specs.Values.{Text, Value, null, boolean, integer, string, array, object, Members, no_members, member, members_list, nesting, members, entry, same_text, are_well_formed_members}
use Rattle.definitions.specs.Pointers.{Pointer}
use Rattle.definitions.specs.Keywords.{keywords, shape_in}
use Rattle.definitions.specs.Schemas.{Schema, schema_at, at_place, subschemas_by, schemas_within, schemas_from, schemas_of}
use Rattle.definitions.specs.Bundles.{put_member}
use Rattle.definition_laws.specs.Identities.{IsDefinite}
use Rattle.definition_laws.proofs.Occurrences.{IsIn}
use Rattle.definition_laws.proofs.FlatMaps.{same_flat_map}
use Rattle.definition_laws.proofs.Places.{places, stepped, at_place_is, step_from, before_all}
use Rattle.lemmas.proofs.Members.{member_parts}
use Rattle.definition_laws.proofs.Roots.{step_nests}
use Rattle.definition_laws.proofs.BundledDocuments.{root_schema}

-- ---- lists of lists
pub flat_append : {A B : Type 0} (f : A → List B) (xs ys : List A) → flat_map f (xs ++ ys) ≡ flat_map f xs ++ flat_map f ys
flat_append f [] ys = refl
flat_append f (x ∷ xs) ys = ap (λ rest. f x ++ rest) (flat_append f xs ys) ∙ sym (append_assoc (f x) (flat_map f xs) (flat_map f ys))

pub flat_flat : {A B C : Type 0} (f : B → List C) (g : A → List B) (xs : List A) → flat_map f (flat_map g xs) ≡ flat_map (λ x. flat_map f (g x)) xs
flat_flat f g [] = refl
flat_flat f g (x ∷ xs) = flat_append f (g x) (flat_map g xs) ∙ ap (λ rest. flat_map f (g x) ++ rest) (flat_flat f g xs)

pub flat_mapped : {A B C : Type 0} (f : B → List C) (g : A → B) (xs : List A) → flat_map f (map g xs) ≡ flat_map (λ x. f (g x)) xs
flat_mapped f g [] = refl
flat_mapped f g (x ∷ xs) = ap (λ rest. f (g x) ++ rest) (flat_mapped f g xs)

module _ {B : Type 0} (f : Schema → List B) where
  -- of so many levels
  abbrev pub collected : ℕ → Schema → List B
  collected zero s = []
  collected (suc n) s = f s ++ flat_map (λ t. collected n t.1) (subschemas_by keywords s)

  pub collected_is : (n : ℕ) (way : Pointer) (s : Schema) → flat_map (λ t. f t.1) (schemas_within keywords n way s) ≡ collected n s
  collected_is zero way s = refl
  collected_is (suc n) way s =
      ap (λ rest. f s ++ rest)
      (flat_flat (λ t. f t.1) (λ t. schemas_within keywords n (way ++ t.0) t.1) (subschemas_by keywords s)
      ∙ same_flat_map (λ t. flat_map (λ u. f u.1) (schemas_within keywords n (way ++ t.0) t.1)) (λ t. collected n t.1) (subschemas_by keywords s) (λ t i. collected_is n (way ++ t.0) t.1))

  -- so many levels that none is left
  pub collected_all : (n m : ℕ) (s : Schema) → nesting s.value < n → nesting s.value < m → collected n s ≡ collected m s
  collected_all zero m s l k = absurd (omega arith)
  collected_all (suc n) zero s l k = absurd (omega arith)
  collected_all (suc n) (suc m) s l k =
      ap (λ rest. f s ++ rest) (same_flat_map (λ t. collected n t.1) (λ t. collected m t.1) (subschemas_by keywords s)
      (λ t i. let deeper = step_nests keywords s t.1 t.0 (step_from keywords s t.1 t.0 i) in collected_all n m t.1 (omega arith) (omega arith)))

  pub of_schemas : (base : Text) (v : Value) (n : ℕ) → nesting (schema_at base [] v).value < n → flat_map f (schemas_of base v) ≡ collected n (schema_at base [] v)
  of_schemas base v n l =
      let top : Schema = schema_at base [] v in
      flat_mapped f (λ t. t.1) (schemas_from top) ∙ collected_is (suc (nesting top.value)) [] top ∙ collected_all (suc (nesting top.value)) n top (omega arith) l

  -- ---- member by member
  abbrev pub held : ℕ → Text → Text × Value → List B
  held n uri m = flat_map (λ e. collected n (schema_at uri (m.0 ∷ e.0) e.1)) (places m.1 (shape_in keywords m.0))

  pub by_members : (n : ℕ) (uri : Text) (v : Value) → collected (suc n) (root_schema uri v) ≡ f (root_schema uri v) ++ flat_map (held n uri) (members v)
  by_members n uri v =
      ap (λ rest. f (root_schema uri v) ++ rest)
      (flat_flat (λ t. collected n t.1) (λ m. at_place (root_schema uri v) m.0 m.1 (shape_in keywords m.0)) (members v)
      ∙ same_flat_map (λ m. flat_map (λ t. collected n t.1) (at_place (root_schema uri v) m.0 m.1 (shape_in keywords m.0))) (held n uri) (members v)
      (λ m i. ap (flat_map (λ t. collected n t.1)) (at_place_is (root_schema uri v) m.0 m.1 (shape_in keywords m.0))
      ∙ flat_mapped (λ t. collected n t.1) (stepped (root_schema uri v) m.0) (places m.1 (shape_in keywords m.0))))

-- ---- a member that is put
abbrev Put : Ordering → Text → Value → Text × Value → List (Text × Value) → List (Text × Value)
Put o n v m ms = match_ordering o ((n, v) ∷ m ∷ ms) ((n, v) ∷ ms) (m ∷ put_member n v ms)

-- under a name of which nothing is collected
pub put_nothing : {B : Type 0} (g : Text × Value → List B) (n : Text) (v : Value) (ms : List (Text × Value)) → ((w : Value) → g (n, w) ≡ []) → flat_map g (put_member n v ms) ≡ flat_map g ms
put_nothing g n v [] h = rw (h v) refl
put_nothing {B} g n v (m ∷ ms) h = by (slice_cmp nat_cmp n m.0) refl (put_nothing g n v ms h)
  where
    by : (o : Ordering) → slice_cmp nat_cmp n m.0 ≡ o → flat_map g (put_member n v ms) ≡ flat_map g ms → flat_map g (Put o n v m ms) ≡ flat_map g (m ∷ ms)
    by Less e later = rw (h v) refl
    by Equal e later =
        let none : g m ≡ [] = ap (λ k. g (k, m.1)) (sym (exact_bytes n m.0 e)) ∙ h m.1 in
        rw (h v, none) refl
    by Greater e later = ap (λ rest. g m ++ rest) later

-- a list moved to the front
pub moved_front : {B : Type 0} (xs ys zs : List B) → IsPermutation (xs ++ (ys ++ zs)) (ys ++ (xs ++ zs))
moved_front xs ys zs =
    subst (λ l. IsPermutation l (ys ++ (xs ++ zs))) (append_assoc xs ys zs)
    (subst (IsPermutation ((xs ++ ys) ++ zs)) (append_assoc ys xs zs)
    (IsPermutation-append (xs ++ ys) (ys ++ xs) zs zs (IsPermutation-append_comm xs ys) (IsPermutation-refl zs)))

-- under a new name
pub put_new : {B : Type 0} (g : Text × Value → List B) (n : Text) (v : Value) (ms : List (Text × Value)) → ((m : Text × Value) → IsIn m ms → n ≡ m.0 → ⊥)
    → IsPermutation (flat_map g (put_member n v ms)) (g (n, v) ++ flat_map g ms)
put_new g n v [] new = IsPermutation-refl (g (n, v) ++ [])
put_new {B} g n v (m ∷ ms) new = by (slice_cmp nat_cmp n m.0) refl (put_new g n v ms (λ k i. new k (inr i)))
  where
    by : (o : Ordering) → slice_cmp nat_cmp n m.0 ≡ o → IsPermutation (flat_map g (put_member n v ms)) (g (n, v) ++ flat_map g ms)
        → IsPermutation (flat_map g (Put o n v m ms)) (g (n, v) ++ flat_map g (m ∷ ms))
    by Less e later = IsPermutation-refl (g (n, v) ++ flat_map g (m ∷ ms))
    by Equal e later = absurd (new m (inl refl) (exact_bytes n m.0 e))
    by Greater e later =
        IsPermutation-trans (g m ++ flat_map g (put_member n v ms)) (g m ++ (g (n, v) ++ flat_map g ms)) (g (n, v) ++ (g m ++ flat_map g ms))
        (IsPermutation-append_right (g m) (flat_map g (put_member n v ms)) (g (n, v) ++ flat_map g ms) later) (moved_front (g m) (g (n, v)) (flat_map g ms))

-- ---- under a name that may stand there
abbrev pub IsAscending : List (Text × Value) → Type 0
IsAscending [] = Unit {0}
IsAscending (m ∷ ms) = ((k : Text × Value) → IsIn k ms → slice_cmp nat_cmp m.0 k.0 ≡ Less) × IsAscending ms

ascending_list : (ms : Members) → are_well_formed_members ms ≡ true → IsAscending (members_list ms)
ascending_list no_members h = tt
ascending_list (member n v ms) h = let p = member_parts n v ms h in (λ k i. before_all n ms k.0 k.1 p.0 p.2 i, ascending_list ms p.2)

pub ascending_members : (v : Value) → IsDefinite v → IsAscending (members v)
ascending_members (object ms) d = ascending_list ms d.well_formed
ascending_members null d = tt
ascending_members (boolean b) d = tt
ascending_members (integer z) d = tt
ascending_members (string s) d = tt
ascending_members (array vs) d = tt

no_entry : (n : Text) (ms : List (Text × Value)) → ((k : Text × Value) → IsIn k ms → slice_cmp nat_cmp n k.0 ≡ Less) → entry n ms ≡ None
no_entry n [] h = refl
no_entry n (m ∷ ms) h =
    let differs : same_text n m.0 ≡ false = sym (is_eq-slice_cmp n m.0) ∙ ap is_eq (h m (inl refl)) in
    rw differs (no_entry n ms (λ k i. h k (inr i)))

-- es is what the new value adds to what stood there
pub put_more : {B : Type 0} (g : Text × Value → List B) (n : Text) (v : Value) (es : List B) (ms : List (Text × Value)) → IsAscending ms
    → (entry n ms ≡ None → IsPermutation (g (n, v)) es) → ((y : Value) → entry n ms ≡ Some y → IsPermutation (g (n, v)) (es ++ g (n, y)))
    → IsPermutation (flat_map g (put_member n v ms)) (es ++ flat_map g ms)
put_more g n v es [] a none some = IsPermutation-append (g (n, v)) es [] [] (none refl) (IsPermutation-refl [])
put_more {B} g n v es (m ∷ ms) a none some = by (slice_cmp nat_cmp n m.0) refl (put_more g n v es ms a.1)
  where
    by : (o : Ordering) → slice_cmp nat_cmp n m.0 ≡ o
        → ((entry n ms ≡ None → IsPermutation (g (n, v)) es) → ((y : Value) → entry n ms ≡ Some y → IsPermutation (g (n, v)) (es ++ g (n, y))) → IsPermutation (flat_map g (put_member n v ms)) (es ++ flat_map g ms))
        → IsPermutation (flat_map g (Put o n v m ms)) (es ++ flat_map g (m ∷ ms))
    by Less e later =
        let none_here : entry n (m ∷ ms) ≡ None =
        no_entry n (m ∷ ms) (λ k i. elim i [ inl same ↦ subst (λ x. slice_cmp nat_cmp n x.0 ≡ Less) same e | inr j ↦ nat_list_cmp_total.trans n m.0 k.0 e (a.0 k j) ]) in
        IsPermutation-append (g (n, v)) es (flat_map g (m ∷ ms)) (flat_map g (m ∷ ms)) (none none_here) (IsPermutation-refl (flat_map g (m ∷ ms)))
    by Equal e later =
        let tested : same_text n m.0 ≡ true = sym (is_eq-slice_cmp n m.0) ∙ ap is_eq e in
        let found : entry n (m ∷ ms) ≡ Some m.1 = ap (λ b. cond b (Some m.1) (entry n ms)) tested in
        let own : IsPermutation (g (n, v)) (es ++ g m) = subst (λ k. IsPermutation (g (n, v)) (es ++ g (k, m.1))) (exact_bytes n m.0 e) (some m.1 found) in
        subst (IsPermutation (g (n, v) ++ flat_map g ms)) (append_assoc es (g m) (flat_map g ms))
        (IsPermutation-append (g (n, v)) (es ++ g m) (flat_map g ms) (flat_map g ms) own (IsPermutation-refl (flat_map g ms)))
    by Greater e later =
        let differs : same_text n m.0 ≡ false = sym (is_eq-slice_cmp n m.0) ∙ ap is_eq e in
        let skipped : entry n (m ∷ ms) ≡ entry n ms = ap (λ b. cond b (Some m.1) (entry n ms)) differs in
        IsPermutation-trans (g m ++ flat_map g (put_member n v ms)) (g m ++ (es ++ flat_map g ms)) (es ++ (g m ++ flat_map g ms))
        (IsPermutation-append_right (g m) (flat_map g (put_member n v ms)) (es ++ flat_map g ms) (later (λ f. none (skipped ∙ f)) (λ y f. some y (skipped ∙ f))))
        (moved_front (g m) es (flat_map g ms))
