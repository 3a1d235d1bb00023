-- What values have, by their kind.
use Rattle.std.proofs.Common.{◌≡◌, ◌<◌, ℕ, List, [], map, subst, length, get_or, Some, None, Bor, option_map, refl, sym, ap, ◌∙◌}
use Rattle.std.proofs.lemmas.Option.{slice_get-get_or, slice_get-map}
use Rattle.std.specs.List.{slice_get}
use Rattle.definitions.specs.Values.{Text, Value, null, array, object, elements, members}
use Rattle.json_doc.specs.Docs.{value}
use Rattle.json_doc.specs.Kinds.{as_elements, as_members}
use Rattle.json_doc.specs.Members.{member_view, HasNamesInOrder}
use Rattle.json_doc.specs.declared.doc.Doc.{Doc}
use Rattle.schema_scan.specs.Descents.{row, name_of, IsHeld}
use Rattle.schema_scan.proofs.Descents.{row-key}

pub elements_none : (v : Value) → as_elements v ≡ None → elements v ≡ []
elements_none (array vs) e = cc
elements_none _ e = refl

pub elements_some : (v : Value) (vs : List Value) → as_elements v ≡ Some vs → elements v ≡ vs
elements_some null vs e = cc
elements_some _ vs e = cc

pub members_none : (v : Value) → as_members v ≡ None → members v ≡ []
members_none (object ms) e = cc
members_none _ e = refl

pub members_some : (v : Value) (ms : List (Text × Value)) → as_members v ≡ Some ms → members v ≡ ms
members_some null ms e = cc
members_some _ ms e = cc

pub element_of : (w : Value) (items : List Doc) (i : ℕ) (d : Doc) → elements w ≡ map value items → i < length items → d ≡ get_or items i d → slice_get (elements w) i ≡ Some (value d)
element_of w items i d is h e =
    ap (λ vs. slice_get vs i) is ∙ slice_get-map value items i ∙ ap (option_map value) (slice_get-get_or items i d h) ∙ ap (λ y. Some (value y)) (sym e)

pub held : (v : Value) (name : Text) (ms : List (Text × Value)) (m : Bor Text × Bor Doc) → as_members v ≡ Some ms → HasNamesInOrder ms
    → Some (member_view m) ≡ row name_of name ms → (name ≡ m.0.now) × IsHeld v name (value m.1.now)
held v name ms m e ordered found =
    let is : members v ≡ ms = members_some v ms e in
    let key : name ≡ m.0.now = row-key name_of name ms (member_view m) (sym found) in (
      key,
      record {
        ordered = subst HasNamesInOrder (sym is) ordered;
        found = ap (row name_of name) is ∙ sym found ∙ ap (λ n. Some (n, value m.1.now)) (sym key);
      },
    )
