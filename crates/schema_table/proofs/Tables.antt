-- What is gathered of the schemas is what the definitions find in them.
use Rattle.std.proofs.Common.{◌≡◌, ◌==◌, ◌&&◌, ◌||◌, ℕ, zero, suc, ◌-◌, List, [], ◌∷◌, ◌++◌, Bool, true, false, cond, Option, Some, None, codes, drop, length, map, filter, nat_le, is_some, option_and_then, option_map, unwrap_or, refl, sym, ap, ap₂, ◌∙◌, arith, inl, inr, append_assoc, subst}
use Rattle.std.proofs.lemmas.Bool.Decides.{nat_tests}
use Rattle.std.proofs.lemmas.List.{drop_all, length-drop, length-map, map-append}
use Rattle.std.proofs.lemmas.Bool.{and_from, and_parts}
use Rattle.std.proofs.lemmas.Option.{same_Some, slice_get-map}
use Rattle.std.proofs.lemmas.Slice.Eq.{bytes_eq-Decides}
use Rattle.std.specs.List.{find, flat_map, list_any, slice_get}
use Rattle.definitions.specs.Values.{Text, Value, same_text, text_at}
use Rattle.definitions.specs.Schemas.{Schema, is_root, references}
use Rattle.definitions.specs.Lists.{has_repeat, option_list}
use Rattle.definitions.specs.Scanning.{anchor_names, anchors_of, resource_uris}
use Rattle.definitions.specs.Targets.{resource_root, is_anchor, is_dynamic_anchor, schema_with_anchor, schema_with_dynamic_anchor}
use Rattle.locations.specs.Hops.{Hop, hop_token, hop_tokens}
use Rattle.schema_table.specs.Spots.{Spot, at_root, spot_view}
use Rattle.schema_table.specs.Gathering.{Mark, mark, mark_pair, marks, marks_named, plain_name, references_at, root_uris, root_ways, spot_references}
use Rattle.schema_table.specs.Lookups.{has_dynamic_mark, has_mark, marked_schema, root_at, root_schema}
use Rattle.lemmas.proofs.Texts.{same_text_is, same_text_itself}
use Rattle.definition_laws.proofs.Occurrences.{IsIn, filter_passes, finds_only, from_filter, into_map}
use Rattle.definition_laws.proofs.Roots.{root_pointer, roots_once}
use Rattle.schema_table.proofs.Following.{AreFollowed, IsFollowed}

-- ---- roots
same-tests : (m n : ℕ) → (m - n == 0) ≡ nat_le m n
same-tests m n = grind (arith, nat_tests)

pub is_root-spot : (s : Spot) → is_root (spot_view s) ≡ at_root s
is_root-spot s =
    ap (λ n. n == 0) (length-map (drop s.start s.way) hop_token ∙ length-drop s.start s.way) ∙ same-tests (length s.way) s.start

roots-of : (ss : List Spot) → filter is_root (map spot_view ss) ≡ map spot_view (filter at_root ss)
roots-of [] = refl
roots-of (s ∷ ss) = ap (λ b. cond b (spot_view s ∷ filter is_root (map spot_view ss)) (filter is_root (map spot_view ss))) (is_root-spot s) ∙ by (at_root s) (roots-of ss)
  where
    by : (b : Bool) → filter is_root (map spot_view ss) ≡ map spot_view (filter at_root ss)
        → cond b (spot_view s ∷ filter is_root (map spot_view ss)) (filter is_root (map spot_view ss)) ≡ map spot_view (cond b (s ∷ filter at_root ss) (filter at_root ss))
    by true e = ap (λ ts. spot_view s ∷ ts) e
    by false e = e

resources-of : (ss : List Spot) → map (λ (t : Schema). t.resource) (map spot_view ss) ≡ map (λ (s : Spot). s.resource) ss
resources-of [] = refl
resources-of (s ∷ ss) = ap (λ us. s.resource ∷ us) (resources-of ss)

pub uris-of : (ss : List Spot) → root_uris ss ≡ resource_uris (map spot_view ss)
uris-of ss = sym (ap (map (λ (t : Schema). t.resource)) (roots-of ss) ∙ resources-of (filter at_root ss))

-- ---- references
pub references-of : (ss : List Spot) → flat_map spot_references ss ≡ flat_map references (map spot_view ss)
unfolding references_at
references-of [] = refl
references-of (s ∷ ss) = ap (λ us. references (spot_view s) ++ us) (references-of ss)

-- ---- the root of a resource
root-pointer : (s : Spot) → at_root s ≡ true → drop s.start s.way ≡ []
root-pointer s e = drop_all s.start s.way (grind (arith, nat_tests))

abbrev schema_with : Text → Value → List Hop → Schema
schema_with uri v hops = record { resource = uri; pointer = hop_tokens hops; value = v }

root-at : (root : Value) (s : Spot) → at_root s ≡ true → IsFollowed root s → root_at s.resource s.way root ≡ Some (spot_view s)
unfolding root_at
root-at root s e f = ap (option_map (root_schema s.resource)) f ∙ ap (λ hops. Some (schema_with s.resource s.value hops)) (sym (root-pointer s e))

-- by its number, which is that of its URI
mapped : {A B : Type 0} (f : A → B) (xs : List A) (n : ℕ) (y : B) → slice_get (map f xs) n ≡ Some y → (x : A) × (slice_get xs n ≡ Some x) × IsIn x xs × (f x ≡ y)
mapped f [] n y e = cc
mapped f (x ∷ xs) zero y e = (x, refl, inl refl, same_Some _ _ e)
mapped f (x ∷ xs) (suc n) y e = let later = mapped f xs n y e in (later.0, later.1, inr later.2, later.3)

followed-in : (root : Value) (ss : List Spot) (s : Spot) → AreFollowed root ss → IsIn s ss → IsFollowed root s
followed-in root [] s f i = absurd i
followed-in root (t ∷ ss) s f (inl e) = subst (IsFollowed root) e f.0
followed-in root (t ∷ ss) s f (inr i) = followed-in root ss s f.1 i

pub root-numbered : (root : Value) (ss : List Spot) (uri : Text) (n : ℕ) → AreFollowed root ss → has_repeat same_text (root_uris ss) ≡ false → slice_get (root_uris ss) n ≡ Some uri
    → (way : List Hop) × (slice_get (root_ways ss) n ≡ Some way) × (root_at uri way root ≡ resource_root (map spot_view ss) uri)
root-numbered root ss uri n followed distinct at =
    let roots = filter at_root ss in
    let it = mapped (λ (t : Spot). t.resource) roots n uri at in
    let s = it.0 in
    let inside : IsIn s ss = from_filter at_root ss s it.2 in
    let starts : at_root s ≡ true = filter_passes at_root ss s it.2 in
    let table = map spot_view ss in
    let here : IsIn (spot_view s) table = into_map spot_view ss s inside in
    let is : is_root (spot_view s) ≡ true = is_root-spot s ∙ starts in
    let only : (t : Schema) → IsIn t table → (same_text uri t.resource && is_root t) ≡ true → t ≡ spot_view s =
    λ t i passes.
    let p = and_parts (same_text uri t.resource) (is_root t) passes in
    roots_once table t (spot_view s) (ap (has_repeat same_text) (sym (uris-of ss)) ∙ distinct) i here (root_pointer t p.1) (root_pointer (spot_view s) is)
    (sym (same_text_is uri t.resource p.0) ∙ sym it.3) in
    let found : resource_root table uri ≡ Some (spot_view s) =
    finds_only (λ t. same_text uri t.resource && is_root t) table (spot_view s) here
    (and_from (same_text uri s.resource) (is_root (spot_view s)) (ap (same_text uri) it.3 ∙ same_text_itself uri) is) only in (
      s.way,
      slice_get-map (λ (t : Spot). t.way) roots n ∙ ap (option_map (λ (t : Spot). t.way)) it.1,
      ap (λ u. root_at u s.way root) (sym it.3) ∙ root-at root s starts (followed-in root ss s followed inside) ∙ sym found,
    )

-- ---- anchors
module _ (root : Value) (uri name : Text) where
  abbrev found_mark : (Mark → Bool) → List Mark → Option Schema
  found_mark fits ms = option_and_then (marked_schema root) (find fits ms)

  abbrev tested : Option Text → Bool
  tested o = unwrap_or (option_map (same_text name) o) false

  marked-spot : (s : Spot) (b : Bool) (n : Text) → IsFollowed root s → marked_schema root (mark b s n) ≡ Some (spot_view s)
  unfolding marked_schema
  marked-spot s b n f = ap (option_map (λ v. record { resource = s.resource; pointer = hop_tokens (drop s.start s.way); value = v })) f

  module _ (s : Spot) (followed : IsFollowed root s) where
    hit-mark : (b : Bool) (n : Text) (t : Bool) (ms : Option Mark) → option_and_then (marked_schema root) (cond t (Some (mark b s n)) ms) ≡ cond t (Some (spot_view s)) (option_and_then (marked_schema root) ms)
    hit-mark b n true ms = marked-spot s b n followed
    hit-mark b n false ms = refl

    never : (u : Bool) (t : Option Schema) → t ≡ cond (u && false) (Some (spot_view s)) t
    never true t = refl
    never false t = refl

    one-mark : (b : Bool) (o : Option Text) (rest : List Mark)
        → found_mark (has_mark uri name) (map (mark b s) (option_list o) ++ rest) ≡ cond (same_text uri s.resource && tested o) (Some (spot_view s)) (found_mark (has_mark uri name) rest)
    one-mark b None rest = never (same_text uri s.resource) _
    one-mark b (Some n) rest = hit-mark b n (same_text uri s.resource && same_text name n) (find (has_mark uri name) rest)

    one-dynamic : (o : Option Text) (rest : List Mark)
        → found_mark (has_dynamic_mark uri name) (map (mark true s) (option_list o) ++ rest) ≡ cond (same_text uri s.resource && tested o) (Some (spot_view s)) (found_mark (has_dynamic_mark uri name) rest)
    one-dynamic None rest = never (same_text uri s.resource) _
    one-dynamic (Some n) rest = hit-mark true n (same_text uri s.resource && same_text name n) (find (has_dynamic_mark uri name) rest)

    no-dynamic : (o : Option Text) (rest : List Mark) → found_mark (has_dynamic_mark uri name) (map (mark false s) (option_list o) ++ rest) ≡ found_mark (has_dynamic_mark uri name) rest
    no-dynamic None rest = refl
    no-dynamic (Some n) rest = refl

    either : (u a d : Bool) (t : Option Schema) → cond (u && a) (Some (spot_view s)) (cond (u && d) (Some (spot_view s)) t) ≡ cond (u && (a || d)) (Some (spot_view s)) t
    either true true d t = refl
    either true false d t = refl
    either false a d t = refl

    abbrev dynamic_name : Option Text
    dynamic_name = text_at (codes "$dynamicAnchor") s.value

    abbrev plain : Option Text
    plain = plain_name (text_at (codes "$anchor") s.value) dynamic_name

    -- a name is found under either keyword
    tested-plain : (p d : Option Text) → (tested (plain_name p d) || tested d) ≡ (tested p || tested d)
    tested-plain None d = refl
    tested-plain (Some n) None = refl
    tested-plain (Some n) (Some m) = by (same_text n m) refl
      where
        same : (b : Bool) → b ≡ (b || b)
        same true = refl
        same false = refl

        by : (b : Bool) → same_text n m ≡ b → (tested (cond b None (Some n)) || same_text name m) ≡ (same_text name n || same_text name m)
        by true e = same (same_text name m) ∙ ap (λ x. same_text name x || same_text name m) (sym ((bytes_eq-Decides n m).0 e))
        by false e = refl

    all-marks : (rest : List Mark) → found_mark (has_mark uri name) (marks s ++ rest) ≡ cond (same_text uri s.resource && is_anchor name (spot_view s)) (Some (spot_view s)) (found_mark (has_mark uri name) rest)
    unfolding marks
    all-marks rest =
        ap (found_mark (has_mark uri name)) (append_assoc (marks_named false s plain) (marks_named true s dynamic_name) rest)
        ∙ one-mark false plain (marks_named true s dynamic_name ++ rest)
        ∙ ap (λ t. cond (same_text uri s.resource && tested plain) (Some (spot_view s)) t) (one-mark true dynamic_name rest)
        ∙ either (same_text uri s.resource) (tested plain) (tested dynamic_name) (found_mark (has_mark uri name) rest)
        ∙ ap (λ b. cond (same_text uri s.resource && b) (Some (spot_view s)) (found_mark (has_mark uri name) rest)) (tested-plain (text_at (codes "$anchor") s.value) dynamic_name)

    dynamic-marks : (rest : List Mark) → found_mark (has_dynamic_mark uri name) (marks s ++ rest) ≡ cond (same_text uri s.resource && is_dynamic_anchor name (spot_view s)) (Some (spot_view s)) (found_mark (has_dynamic_mark uri name) rest)
    unfolding marks
    dynamic-marks rest =
        ap (found_mark (has_dynamic_mark uri name)) (append_assoc (marks_named false s plain) (marks_named true s dynamic_name) rest)
        ∙ no-dynamic plain (marks_named true s dynamic_name ++ rest)
        ∙ one-dynamic dynamic_name rest

  pub anchored-by_mark : (ss : List Spot) → AreFollowed root ss → found_mark (has_mark uri name) (flat_map marks ss) ≡ schema_with_anchor (map spot_view ss) uri name
  anchored-by_mark [] f = refl
  anchored-by_mark (s ∷ ss) f =
      all-marks s f.0 (flat_map marks ss)
      ∙ ap (λ t. cond (same_text uri s.resource && is_anchor name (spot_view s)) (Some (spot_view s)) t) (anchored-by_mark ss f.1)

  pub dynamically-by_mark : (ss : List Spot) → AreFollowed root ss → found_mark (has_dynamic_mark uri name) (flat_map marks ss) ≡ schema_with_dynamic_anchor (map spot_view ss) uri name
  dynamically-by_mark [] f = refl
  dynamically-by_mark (s ∷ ss) f =
      dynamic-marks s f.0 (flat_map marks ss)
      ∙ ap (λ t. cond (same_text uri s.resource && is_dynamic_anchor name (spot_view s)) (Some (spot_view s)) t) (dynamically-by_mark ss f.1)

-- ---- whether a dynamic anchor stands there
module _ (uri name : Text) where
  abbrev is_held : List Mark → Bool
  is_held ms = list_any (has_dynamic_mark uri name) ms

  module _ (s : Spot) where
    none-held : (o : Option Text) (rest : List Mark) → is_held (map (mark false s) (option_list o) ++ rest) ≡ is_held rest
    none-held None rest = refl
    none-held (Some n) rest = refl

    passed : (u b : Bool) → b ≡ ((u && false) || b)
    passed true b = refl
    passed false b = refl

    one-held : (o : Option Text) (rest : List Mark)
        → is_held (map (mark true s) (option_list o) ++ rest) ≡ ((same_text uri s.resource && unwrap_or (option_map (same_text name) o) false) || is_held rest)
    one-held None rest = passed (same_text uri s.resource) (is_held rest)
    one-held (Some n) rest = refl

    abbrev dynamic_under : Option Text
    dynamic_under = text_at (codes "$dynamicAnchor") s.value

    abbrev plain_under : Option Text
    plain_under = plain_name (text_at (codes "$anchor") s.value) dynamic_under

    spot-held : (rest : List Mark) → is_held (marks s ++ rest) ≡ ((same_text uri s.resource && is_dynamic_anchor name (spot_view s)) || is_held rest)
    unfolding marks
    spot-held rest =
        ap is_held (append_assoc (marks_named false s plain_under) (marks_named true s dynamic_under) rest)
        ∙ none-held plain_under (marks_named true s dynamic_under ++ rest)
        ∙ one-held dynamic_under rest

  first-held : (b : Bool) (t : Schema) (rest : Option Schema) → (b || is_some rest) ≡ is_some (cond b (Some t) rest)
  first-held true t rest = refl
  first-held false t rest = refl

  pub dynamically-held : (ss : List Spot) → is_held (flat_map marks ss) ≡ is_some (schema_with_dynamic_anchor (map spot_view ss) uri name)
  dynamically-held [] = refl
  dynamically-held (s ∷ ss) =
      let here = same_text uri s.resource && is_dynamic_anchor name (spot_view s) in
      spot-held s (flat_map marks ss)
      ∙ ap (λ b. here || b) (dynamically-held ss)
      ∙ first-held here (spot_view s) (schema_with_dynamic_anchor (map spot_view ss) uri name)

-- ---- the anchors of the scan
names-paired : (s : Spot) (p d : Option Text) → map mark_pair (marks_named false s (plain_name p d) ++ marks_named true s d) ≡ map (λ n. (s.resource, n)) (anchor_names p d)
names-paired s None None = refl
names-paired s None (Some m) = refl
names-paired s (Some n) None = refl
names-paired s (Some n) (Some m) = by (same_text n m) refl
  where
    by : (b : Bool) → same_text n m ≡ b → map mark_pair (marks_named false s (cond b None (Some n)) ++ marks_named true s (Some m)) ≡ map (λ x. (s.resource, x)) (cond b (n ∷ []) (n ∷ m ∷ []))
    by true e = ap (λ (x : Text). (s.resource, x) ∷ []) (sym ((bytes_eq-Decides n m).0 e))
    by false e = refl

marks-paired : (s : Spot) → map mark_pair (marks s) ≡ anchors_of (spot_view s)
unfolding marks
marks-paired s = names-paired s (text_at (codes "$anchor") s.value) (text_at (codes "$dynamicAnchor") s.value)

pub anchors-of : (ss : List Spot) → map mark_pair (flat_map marks ss) ≡ flat_map anchors_of (map spot_view ss)
anchors-of [] = refl
anchors-of (s ∷ ss) = map-append mark_pair (marks s) (flat_map marks ss) ∙ ap₂ (λ a b. a ++ b) (marks-paired s) (anchors-of ss)
