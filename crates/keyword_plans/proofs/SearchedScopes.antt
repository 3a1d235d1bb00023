-- How far a dynamic scope was searched for a dynamic anchor, as resources come and go.
use Rattle.std.proofs.Common.{◌≡◌, ◌≤◌, ◌<◌, ◌+◌, ◌++◌, ◌∷◌, [], ℕ, Bor, List, Option, Some, None, true, false, inl, inr, length, get_or, map, is_none, is_some, unwrap_or, refl, sym, ap, ◌∙◌, subst, arith}
use Rattle.std.proofs.lemmas.Bool.{cases_lt}
use Rattle.std.proofs.lemmas.List.{get_or-map, get_or_append_left, length-append, length-map}
use Rattle.std.proofs.lemmas.List.Elements.{Contains-get_or}
use Rattle.std.proofs.lemmas.List.Sums.{position_or_len_is}
use Rattle.definitions.specs.Schemas.{Schema}
use Rattle.definitions.specs.Targets.{outermost, schema_with_dynamic_anchor}
use Rattle.definitions.specs.Values.{Text}
use Rattle.linker.specs.DynamicTargets.{is_anchored}
use Rattle.linker.specs.LinkedDocuments.{linked_schemas}
use Rattle.linker.specs.declared.linked.Linked.{Linked}
use Rattle.linker.proofs.DynamicAnchors.{outermost_at, outermost_none}
use Rattle.keyword_plans.specs.LinkedResources.{HasResource, HasResources}
use Rattle.keyword_plans.specs.Searched.{AreSearched}

module _ (l : Linked) (name : Text) where
  -- ---- one resource
  abbrev Passes : Text → Type 0
  Passes uri = HasResource l uri → is_anchored (linked_schemas l) name uri ≡ false

  abbrev Finds : Schema → Text → Type 0
  Finds s uri = HasResource l uri → schema_with_dynamic_anchor (linked_schemas l) uri name ≡ Some s

  pub fresh_searched : (uris : List Text) → AreSearched l uris name 0 None
  fresh_searched uris = record { within = omega arith; before = λ i less known. absurd (omega (arith, less)); there = λ s e. absurd (cc) }

  -- ---- a resource comes
  pub pushed_searched : (older : List Text) (uri : Text) (n : ℕ) (found : Option Schema) → AreSearched l older name n found → AreSearched l (older ++ uri ∷ []) name n found
  pushed_searched older uri n found at =
      let long = length-append older (uri ∷ []) in
      record {
        within = omega (arith, at.within, long);
        before = λ i less. subst Passes (sym (get_or_append_left older (uri ∷ []) [] i (omega (arith, less, at.within)))) (at.before i less);
        there = λ s is.
            let one = at.there s is in
            (omega (arith, one.0, long), subst (Finds s) (sym (get_or_append_left older (uri ∷ []) [] n one.0)) one.1);
      }

  -- ---- a resource goes that wasn't reached
  pub kept_searched : (older : List Text) (uri : Text) (n : ℕ) (found : Option Schema) → n < length older → AreSearched l (older ++ uri ∷ []) name n found → AreSearched l older name n found
  kept_searched older uri n found less at = record {
    within = omega (arith, less);
    before = λ i lower. subst Passes (get_or_append_left older (uri ∷ []) [] i (omega (arith, less, lower))) (at.before i lower);
    there = λ s is. (less, subst (Finds s) (get_or_append_left older (uri ∷ []) [] n less) (at.there s is).1);
  }

  -- ---- a resource goes that was reached
  pub cut_searched : (older : List Text) (uri : Text) (n : ℕ) (found : Option Schema) → length older ≤ n → AreSearched l (older ++ uri ∷ []) name n found → AreSearched l older name (length older) None
  cut_searched older uri n found more at = record {
    within = omega arith;
    before = λ i lower. subst Passes (get_or_append_left older (uri ∷ []) [] i lower) (at.before i (omega (arith, more, lower)));
    there = λ s e. absurd (cc);
  }

  -- ---- the resources in turn
  abbrev texts : List (Bor Text) → List Text
  texts uris = map (λ u. u.now) uris

  abbrev at : List (Bor Text) → ℕ → Text
  at uris n = (get_or uris n (record { ref_ptr = (0, 0); now = [] })).now

  abbrev PassesAll : List (Bor Text) → ℕ → Type 0
  PassesAll uris n = (i : ℕ) → i < n → Passes (get_or (texts uris) i [])

  text_at : (uris : List (Bor Text)) (n : ℕ) → n < length uris → get_or (texts uris) n [] ≡ at uris n
  text_at uris n less = get_or-map (λ (u : Bor Text). u.now) uris n (record { ref_ptr = (0, 0); now = [] }) [] less

  pub passed_one_more : (uris : List (Bor Text)) (n : ℕ) → n < length uris → PassesAll uris n → Passes (at uris n) → PassesAll uris (n + 1)
  passed_one_more uris n less before here i lower = elim (cases_lt i n) [
    | inl earlier ↦ before i earlier
    | inr later ↦
        let last : n ≡ i = omega (arith, lower, later) in
        subst (λ j. Passes (get_or (texts uris) j [])) last (subst Passes (sym (text_at uris n less)) here)
  ]

  pub found_searched : (uris : List (Bor Text)) (n : ℕ) (found : Option Schema) → n < length uris → PassesAll uris n
      → (HasResource l (at uris n) → found ≡ schema_with_dynamic_anchor (linked_schemas l) (at uris n) name) → AreSearched l (texts uris) name n found
  found_searched uris n found less before right =
      let long = length-map uris (λ (u : Bor Text). u.now) in
      record {
        within = omega (arith, less, long);
        before = before;
        there = λ s is. (omega (arith, less, long), subst (Finds s) (sym (text_at uris n less)) (λ known. sym (right known) ∙ is));
      }

  pub none_searched : (uris : List (Bor Text)) (n : ℕ) → length uris ≤ n → PassesAll uris n → AreSearched l (texts uris) name (length uris) None
  none_searched uris n all before =
      let long = length-map uris (λ (u : Bor Text). u.now) in
      record { within = omega (arith, long); before = λ i less. before i (omega (arith, less, all)); there = λ s e. absurd (cc) }

  -- ---- where it ends, and the resources are the documents'
  module _ (uris : List Text) (n : ℕ) (known : HasResources l uris) (first : Schema) where
    there : (i : ℕ) → i < length uris → HasResource l (get_or uris i [])
    there i less = known (get_or uris i []) (Contains-get_or uris i [] less)

    found_outermost : (s : Schema) → AreSearched l uris name n (Some s) → s ≡ outermost (linked_schemas l) uris name first
    found_outermost s at =
        let one = at.there s refl in
        let here : schema_with_dynamic_anchor (linked_schemas l) (get_or uris n []) name ≡ Some s = one.1 (there n one.0) in
        let place = position_or_len_is (is_anchored (linked_schemas l) name) uris n [] at.within (λ i less. at.before i less (there i (omega (arith, less, one.0)))) (λ less. ap is_some here) in
        sym (ap (λ o. unwrap_or o first) here) ∙ outermost_at (linked_schemas l) name uris n first (sym place) one.0

    none_outermost : AreSearched l uris name n None → n ≡ length uris → first ≡ outermost (linked_schemas l) uris name first
    none_outermost at all =
        let place = position_or_len_is (is_anchored (linked_schemas l) name) uris n [] at.within (λ i less. at.before i less (there i (omega (arith, less, all)))) (λ less. absurd (omega (arith, less, all))) in
        sym (outermost_none (linked_schemas l) name uris first (place ∙ all))

    pub searched_outermost : (found : Option Schema) → AreSearched l uris name n found → (is_none found ≡ true → n ≡ length uris)
        → unwrap_or found first ≡ outermost (linked_schemas l) uris name first
    searched_outermost None at whole = none_outermost at (whole refl)
    searched_outermost (Some s) at whole = found_outermost s at
