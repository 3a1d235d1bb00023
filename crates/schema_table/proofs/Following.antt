-- Each way of the walk leads to its schema.
use Rattle.std.proofs.Common.{◌≡◌, add-one, ℕ, ◌+◌, List, [], ◌∷◌, ◌++◌, true, false, cond, Option, Some, None, refl, sym, ap, ◌∙◌, option_and_then, Less, nat_cmp}
use Rattle.std.proofs.lemmas.Bool.{and_parts}
use Rattle.std.proofs.lemmas.Cmp.{nat_list_cmp_total}
use Rattle.std.proofs.lemmas.Slice.Eq.{bytes_eq-Decides}
use Rattle.std.proofs.lemmas.Map.Text.{is_eq-slice_cmp}
use Rattle.std.specs.Cmp.Lexicographic.{slice_cmp}
use Rattle.std.specs.List.{AllByRecursion, slice_get}
use Rattle.std.specs.Ordering.{is_eq, ordering_reverse}
use Rattle.definitions.specs.Values.{Text, Value, array, object, Elements, no_elements, element, elements_list, Members, no_members, member, members_list, entry, same_text, is_before, is_well_formed, are_well_formed, are_well_formed_members}
use Rattle.definitions.specs.Shapes.{Shape, one_schema, schema_list, schema_map}
use Rattle.keywords.specs.Rows.{shape_named}
use Rattle.lemmas.proofs.Orders.{is_less}
use Rattle.lemmas.proofs.Members.{member_parts}
use Rattle.locations.specs.Hops.{Hop, to_member, to_element, hop_value, follow}
use Rattle.schema_table.specs.Spots.{Spot, resource_of, start_of, spots, spots_below, spots_at, spots_in_list, spots_in_map}

-- ---- one hop more
after : (o : Option Value) (hs : List Hop) (h : Hop) (u : Value) → ((w : Value) → follow hs w ≡ Some u → follow (hs ++ h ∷ []) w ≡ hop_value h u)
    → option_and_then (follow hs) o ≡ Some u → option_and_then (follow (hs ++ h ∷ [])) o ≡ hop_value h u
after None hs h u f e = cc
after (Some w) hs h u f e = f w e

some-again : (o : Option Value) → option_and_then (follow []) o ≡ o
some-again None = refl
some-again (Some u) = refl

pub follow-more : (hs : List Hop) (h : Hop) (v u : Value) → follow hs v ≡ Some u → follow (hs ++ h ∷ []) v ≡ hop_value h u
follow-more [] h v u e = some-again (hop_value h v) ∙ ap (hop_value h) (same e)
  where
    same : Some v ≡ Some u → v ≡ u
    same k = cc
follow-more (k ∷ hs) h v u e = after (hop_value k v) hs h u (λ w f. follow-more hs h w u f) e

-- ---- a name stands once
abbrev Below : Text → Members → Type 0
Below n no_members = Unit {0}
Below n (member m v ms) = (slice_cmp nat_cmp n m ≡ Less) × Below n ms

below-through : (n k : Text) (ms : Members) → slice_cmp nat_cmp n k ≡ Less → Below k ms → Below n ms
below-through n k no_members h b = tt
below-through n k (member m v ms) h b = (nat_list_cmp_total.trans n k m h b.0, below-through n k ms h b.1)

below-all : (n : Text) (ms : Members) → is_before n ms ≡ true → are_well_formed_members ms ≡ true → Below n ms
below-all n no_members b h = tt
below-all n (member m v ms) b h =
    let p = member_parts m v ms h in
    (is_less _ b, below-through n m ms (is_less _ b) (below-all m ms p.0 p.2))

differs : (n m : Text) → slice_cmp nat_cmp m n ≡ Less → same_text n m ≡ false
differs n m h = sym (is_eq-slice_cmp n m) ∙ ap is_eq (nat_list_cmp_total.antisymm n m ∙ ap ordering_reverse h)

-- each of these members is found by its name among all
abbrev Enters : Members → Members → Type 0
Enters all no_members = Unit {0}
Enters all (member n v ms) = (entry n (members_list all) ≡ Some v) × Enters all ms

enters-later : (m : Text) (w : Value) (all ms : Members) → Below m ms → Enters all ms → Enters (member m w all) ms
enters-later m w all no_members b e = tt
enters-later m w all (member n v ms) b e = (ap (λ k. cond k (Some w) (entry n (members_list all))) (differs n m b.0) ∙ e.0, enters-later m w all ms b.1 e.1)

enters-self : (ms : Members) → are_well_formed_members ms ≡ true → Enters ms ms
enters-self no_members h = tt
enters-self (member n v ms) h =
    let p = member_parts n v ms h in
    (ap (λ k. cond k (Some v) (entry n (members_list ms))) ((bytes_eq-Decides n n).1 refl), enters-later n v ms ms (below-all n ms p.0 p.2) (enters-self ms p.2))

-- each of these elements is found by its index, where the first has this one
abbrev Gets : List Value → ℕ → Elements → Type 0
Gets all i no_elements = Unit {0}
Gets all i (element v vs) = (slice_get all i ≡ Some v) × Gets all (i + 1) vs

gets-later : (w : Value) (all : List Value) (i : ℕ) (vs : Elements) → Gets all i vs → Gets (w ∷ all) (i + 1) vs
gets-later w all i no_elements g = tt
gets-later w all i (element v vs) g = (ap (slice_get (w ∷ all)) (add-one i) ∙ g.0, gets-later w all (i + 1) vs g.1)

gets-self : (vs : Elements) → Gets (elements_list vs) 0 vs
gets-self no_elements = tt
gets-self (element v vs) = (refl, gets-later v (elements_list vs) 0 vs (gets-self vs))

-- ---- the walk
module _ (root : Value) where
  abbrev pub IsFollowed : Spot → Type 0
  IsFollowed s = follow s.way root ≡ Some s.value

  abbrev pub AreFollowed : List Spot → Type 0
  AreFollowed ss = AllByRecursion IsFollowed ss

  followed-append : (ss ts : List Spot) → AreFollowed ss → AreFollowed ts → AreFollowed (ss ++ ts)
  followed-append [] ts a b = b
  followed-append (s ∷ ss) ts a b = (a.0, followed-append ss ts a.1 b)

  -- each of these members stands below the way
  abbrev LeadsToMembers : List Hop → Members → Type 0
  LeadsToMembers way no_members = Unit {0}
  LeadsToMembers way (member n v ms) = (follow (way ++ to_member n ∷ []) root ≡ Some v) × LeadsToMembers way ms

  abbrev LeadsToElements : List Hop → ℕ → Elements → Type 0
  LeadsToElements way i no_elements = Unit {0}
  LeadsToElements way i (element v vs) = (follow (way ++ to_element i ∷ []) root ≡ Some v) × LeadsToElements way (i + 1) vs

  leads-by-names : (way : List Hop) (all ms : Members) → follow way root ≡ Some (object all) → Enters all ms → LeadsToMembers way ms
  leads-by-names way all no_members f e = tt
  leads-by-names way all (member n v ms) f e = (follow-more way (to_member n) root (object all) f ∙ e.0, leads-by-names way all ms f e.1)

  leads-to-members : (way : List Hop) (ms : Members) → are_well_formed_members ms ≡ true → follow way root ≡ Some (object ms) → LeadsToMembers way ms
  leads-to-members way ms h f = leads-by-names way ms ms f (enters-self ms h)

  leads-by-indexes : (way : List Hop) (all : Elements) (i : ℕ) (vs : Elements) → follow way root ≡ Some (array all) → Gets (elements_list all) i vs → LeadsToElements way i vs
  leads-by-indexes way all i no_elements f g = tt
  leads-by-indexes way all i (element v vs) f g = (follow-more way (to_element i) root (array all) f ∙ g.0, leads-by-indexes way all (i + 1) vs f g.1)

  leads-to-elements : (way : List Hop) (vs : Elements) → follow way root ≡ Some (array vs) → LeadsToElements way 0 vs
  leads-to-elements way vs f = leads-by-indexes way vs 0 vs f (gets-self vs)

  mutual
    pub spots-followed : (way : List Hop) (start : ℕ) (base : Text) (v : Value) → is_well_formed v ≡ true → follow way root ≡ Some v → AreFollowed (spots way start base v)
    spots-followed way start base (object ms) h f =
        (f, below-followed way (start_of start way (object ms)) (resource_of base (object ms)) ms h (leads-to-members way ms h f))
    spots-followed way start base _ h f = (f, tt)

    below-followed : (way : List Hop) (start : ℕ) (uri : Text) (ms : Members) → are_well_formed_members ms ≡ true → LeadsToMembers way ms → AreFollowed (spots_below way start uri ms)
    below-followed way start uri no_members h l = tt
    below-followed way start uri (member n v ms) h l =
        let p = member_parts n v ms h in
        followed-append (spots_at (shape_named n) (way ++ to_member n ∷ []) start uri v) (spots_below way start uri ms)
        (at-followed (shape_named n) (way ++ to_member n ∷ []) start uri v p.1 l.0)
        (below-followed way start uri ms p.2 l.1)

    at-followed : (k : Shape) (way : List Hop) (start : ℕ) (uri : Text) (v : Value) → is_well_formed v ≡ true → follow way root ≡ Some v → AreFollowed (spots_at k way start uri v)
    at-followed one_schema way start uri (object ms) h f =
        (f, below-followed way (start_of start way (object ms)) (resource_of uri (object ms)) ms h (leads-to-members way ms h f))
    at-followed one_schema way start uri _ h f = (f, tt)
    at-followed schema_list way start uri (array vs) h f = list-followed way start uri 0 vs h (leads-to-elements way vs f)
    at-followed schema_map way start uri (object ms) h f = map-followed way start uri ms h (leads-to-members way ms h f)
    at-followed _ way start uri _ h f = tt

    list-followed : (way : List Hop) (start : ℕ) (uri : Text) (i : ℕ) (vs : Elements) → are_well_formed vs ≡ true → LeadsToElements way i vs → AreFollowed (spots_in_list way start uri i vs)
    list-followed way start uri i no_elements h l = tt
    list-followed way start uri i (element v vs) h l =
        let p = and_parts (is_well_formed v) (are_well_formed vs) h in
        followed-append (spots (way ++ to_element i ∷ []) start uri v) (spots_in_list way start uri (i + 1) vs)
        (spots-followed (way ++ to_element i ∷ []) start uri v p.0 l.0)
        (list-followed way start uri (i + 1) vs p.1 l.1)

    map-followed : (way : List Hop) (start : ℕ) (uri : Text) (ms : Members) → are_well_formed_members ms ≡ true → LeadsToMembers way ms → AreFollowed (spots_in_map way start uri ms)
    map-followed way start uri no_members h l = tt
    map-followed way start uri (member n v ms) h l =
        let p = member_parts n v ms h in
        followed-append (spots (way ++ to_member n ∷ []) start uri v) (spots_in_map way start uri ms)
        (spots-followed (way ++ to_member n ∷ []) start uri v p.1 l.0)
        (map-followed way start uri ms p.2 l.1)
