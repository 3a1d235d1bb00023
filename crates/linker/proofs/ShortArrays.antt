-- A value that is held has short arrays.
use Rattle.std.proofs.Common.{◌≡◌, ◌<◌, ◌^◌, ◌&&◌, ℕ, List, [], ◌∷◌, true, false, Bool, map, length, Vec, Global, nat_lt, refl, ap, subst, ◌∙◌, arith}
use Rattle.std.proofs.lemmas.List.{length-map}
use Rattle.std.proofs.lemmas.Bool.{ltb-false}
use Rattle.definitions.specs.Values as json
use Rattle.definitions.specs.Values.{Value, elements_list, to_elements}
use Rattle.definition_laws.specs.Identities.{has_short_arrays, have_short_arrays, members_have_short_arrays}
use Rattle.json_doc.specs.Docs.{value, value_step, members_step, members_view}
use Rattle.json_doc.proofs.Positions.{Entry}
use Rattle.json_doc.proofs.Views.{elements_list-to_elements}
use Rattle.json_doc.specs.declared.doc.Doc.{Doc, map-Doc}
use Rattle.json_doc.specs.declared.doc.Doc.TheFolds.{ind-Doc, fold-roll-Doc, fold-roll-Members}
use Rattle.json_doc.specs.declared.doc.Doc.TheOpen.{Doc-F}
use Rattle.json_doc.specs.declared.members.Members.{Members, map-Members}

abbrev IsShort : Doc → Type 0
IsShort d = has_short_arrays (value d) ≡ true

abbrev AreShort : Members → Type 0
AreShort m = members_have_short_arrays (members_view m) ≡ true

-- each with a proof beside it
abbrev ShortDoc : Type 0
ShortDoc = (d : Doc) × IsShort d

abbrev ShortMembers : Type 0
ShortMembers = (m : Members) × AreShort m

-- ---- arrays
both_hold : (b c : Bool) → b ≡ true → c ≡ true → (b && c) ≡ true
both_hold true c h k = k
both_hold false c h k = h

is_below : (a b : ℕ) → a < b → nat_lt a b ≡ true
is_below a b l = by (nat_lt a b) refl
  where
    by : (c : Bool) → nat_lt a b ≡ c → c ≡ true
    by true e = refl
    by false e = absurd (omega (arith, ltb-false a b e))

length_small : {X : Type 0} (vs : List Value) (v : Vec X Global) → length vs ≡ length v.items → nat_lt (length (elements_list (to_elements vs))) (2 ^ 64) ≡ true
length_small vs v e =
    let as_long : length (elements_list (to_elements vs)) ≡ length v.items = ap length (elements_list-to_elements vs) ∙ e in
    let small : length v.items < 2 ^ 64 = omega (arith, v.ok.0, v.ok.1, v.small) in
    is_below (length (elements_list (to_elements vs))) (2 ^ 64) (omega (arith, as_long, small))

elements_short : (es : List ShortDoc) → have_short_arrays (to_elements (map value (map (λ e. e.0) es))) ≡ true
elements_short [] = refl
elements_short (e ∷ es) = both_hold (has_short_arrays (value e.0)) (have_short_arrays (to_elements (map value (map (λ c. c.0) es)))) e.1 (elements_short es)

-- ---- one level
layer : (y : Doc-F ShortDoc ShortMembers)
    → has_short_arrays (value_step (map-Doc Doc Members Value json.Members value members_view (map-Doc ShortDoc ShortMembers Doc Members (λ e. e.0) (λ e. e.0) y))) ≡ true
layer Doc-F.Null = refl
layer (Doc-F.Bool b) = refl
layer (Doc-F.Int n) = refl
layer (Doc-F.Str s) = refl
layer (Doc-F.Short s) = refl
layer (Doc-F.List v) =
    let vs = map value (map (λ (e : ShortDoc). e.0) v.items) in
    both_hold (nat_lt (length (elements_list (to_elements vs))) (2 ^ 64)) (have_short_arrays (to_elements vs))
    (length_small vs v (length-map (map (λ (e : ShortDoc). e.0) v.items) value ∙ length-map v.items (λ (e : ShortDoc). e.0))) (elements_short v.items)
layer (Doc-F.Dict m) = m.1

entries_short : (es : List (Entry ShortDoc))
    → members_have_short_arrays (members_step (map-Members Doc Members Value json.Members value members_view (map-Members ShortDoc ShortMembers Doc Members (λ e. e.0) (λ e. e.0) (record { entries = es })))) ≡ true
entries_short [] = refl
entries_short (e ∷ es) = both_hold (has_short_arrays (value (e.1).0)) _ (e.1).1 (entries_short es)

pub held_short : (d : Doc) → has_short_arrays (value d) ≡ true
held_short = ind-Doc IsShort AreShort
    (λ x y is. ap has_short_arrays (fold-roll-Doc Value json.Members value_step members_step x)
    ∙ subst (λ z. has_short_arrays (value_step (map-Doc Doc Members Value json.Members value members_view z)) ≡ true) is (layer y))
    (λ x y is. ap members_have_short_arrays (fold-roll-Members Value json.Members value_step members_step x)
    ∙ subst (λ z. members_have_short_arrays (members_step (map-Members Doc Members Value json.Members value members_view z)) ≡ true) is (entries_short y.entries))
