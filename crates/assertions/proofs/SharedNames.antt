-- Two lists of members in order: what one has under the names of the other, walked along either.
use Rattle.std.proofs.Common.{◌≡◌, List, [], ◌∷◌, ◌++◌, Option, Some, None, Ordering, Less, Equal, Greater, nat_cmp, refl, sym, ap, ap₂, subst, ◌∙◌}
use Rattle.std.proofs.lemmas.Map.Lookups.{exact_bytes}
use Rattle.std.specs.Cmp.Lexicographic.{slice_cmp}
use Rattle.std.specs.List.{flat_map}
use Rattle.definitions.specs.Values.{Text, Value, entry}
use Rattle.json_doc.specs.Members.{AreAbove, HasNamesInOrder}
use Rattle.json_doc.proofs.NamesInOrder.{above_lower, absent, all_above, found_alike, found_first, others_above, past_first, turned}
use Rattle.json_doc.proofs.Nestings.{in_order_rest}

module _ {T : Type 0} where
  nothing : {X : Type 0} (f : X → List T) → ((x : X) → f x ≡ []) → (xs : List X) → flat_map f xs ≡ []
  nothing f none [] = refl
  nothing f none (x ∷ xs) = ap₂ (λ a b. a ++ b) (none x) (nothing f none xs)

  -- a member whose name is below theirs adds nothing to what they find
  without : (f : Text × Value → Option Value → List T) (first : Text × Value) (rest ms : List (Text × Value)) → AreAbove first.0 ms
      → flat_map (λ m. f m (entry m.0 (first ∷ rest))) ms ≡ flat_map (λ m. f m (entry m.0 rest)) ms
  without f first rest ms h = sym (found_alike f first.0 (first ∷ rest) rest ms (past_first first rest) h)

module _ {T : Type 0} (f g : Text × Value → Option Value → List T) (f-none : (m : Text × Value) → f m None ≡ []) (g-none : (m : Text × Value) → g m None ≡ []) (alike : (n : Text) (v x : Value) → f (n, v) (Some x) ≡ g (n, x) (Some v)) where
  abbrev Walk : List (Text × Value) → List (Text × Value) → Type 0
  Walk ss ms = flat_map (λ s. f s (entry s.0 ms)) ss ≡ flat_map (λ m. g m (entry m.0 ss)) ms

  at_same : (s m : Text × Value) → s.0 ≡ m.0 → f s (Some m.1) ≡ g m (Some s.1)
  at_same s m e = alike s.0 s.1 m.1 ∙ ap (λ n. g (n, m.1) (Some s.1)) e

  from_first : (s : Text × Value) (ss : List (Text × Value)) → AreAbove s.0 ss → ((ms : List (Text × Value)) → HasNamesInOrder ms → Walk ss ms)
      → (ms : List (Text × Value)) → HasNamesInOrder ms → Walk (s ∷ ss) ms
  from_first s ss above rest [] ordered = nothing (λ r. f r None) f-none (s ∷ ss)
  from_first s ss above rest (m ∷ ms) ordered = by (slice_cmp nat_cmp s.0 m.0) refl (from_first s ss above rest ms (in_order_rest m ms ordered))
    where
      by : (o : Ordering) → slice_cmp nat_cmp s.0 m.0 ≡ o → Walk (s ∷ ss) ms → Walk (s ∷ ss) (m ∷ ms)
      by Less e more =
          let behind : AreAbove s.0 (m ∷ ms) = all_above s.0 m ms e ordered in
          ap₂ (λ a b. a ++ b) (ap (f s) (absent s.0 (m ∷ ms) behind) ∙ f-none s) (rest (m ∷ ms) ordered)
          ∙ sym (without g s ss (m ∷ ms) behind)
      by Equal e more =
          let same : s.0 ≡ m.0 = exact_bytes s.0 m.0 e in
          ap₂ (λ a b. a ++ b) (ap (f s) (found_first s.0 m ms same) ∙ at_same s m same ∙ sym (ap (g m) (found_first m.0 s ss (sym same))))
          (without f m ms ss (subst (λ n. AreAbove n ss) same above) ∙ rest ms (in_order_rest m ms ordered) ∙ sym (without g s ss ms (subst (λ n. AreAbove n ms) (sym same) (others_above m ms ordered))))
      by Greater e more =
          let less : slice_cmp nat_cmp m.0 s.0 ≡ Less = turned s.0 m.0 e in
          let behind : AreAbove m.0 (s ∷ ss) = (less, above_lower m.0 s.0 ss less above) in
          without f m ms (s ∷ ss) behind ∙ more
          ∙ ap (λ a. a ++ flat_map (λ x. g x (entry x.0 (s ∷ ss))) ms) (sym (g-none m) ∙ sym (ap (g m) (absent m.0 (s ∷ ss) behind)))

  pub along_either : (ss ms : List (Text × Value)) → HasNamesInOrder ss → HasNamesInOrder ms → flat_map (λ s. f s (entry s.0 ms)) ss ≡ flat_map (λ m. g m (entry m.0 ss)) ms
  along_either [] ms h ordered = sym (nothing (λ m. g m None) g-none ms)
  along_either (s ∷ ss) ms h ordered = from_first s ss (others_above s ss h) (λ xs. along_either ss xs (in_order_rest s ss h)) ms ordered
