-- A test of a list's elements, read off the documents that stand for them.
use Rattle.std.proofs.Common.{◌≡◌, ℕ, map, length, Bool, Vec, Global, ap, ◌∙◌}
use Rattle.std.proofs.lemmas.List.{length-map}
use Rattle.std.proofs.lemmas.List.Folds.{list_all-map}
use Rattle.std.specs.List.{list_all, list_any}
use Rattle.definitions.specs.Values.{Value, Text, elements, members, same}
use Rattle.definitions.specs.Assertions.{is_of_type, is_of_types, is_one_of, on_elements}
use Rattle.lemmas.proofs.Lists.{list_any-map}
use Rattle.json_doc.specs.Docs.{value, members_value}
use Rattle.json_doc.specs.declared.doc.Doc.{Doc, List as DocList, Dict}
use Rattle.json_doc.specs.declared.members.Members.{Members}
use Rattle.json_doc.proofs.Views.{value-List, value-Dict, elements_list-to_elements, elements-List}

pub all_elements : (test : Value → Bool) (v : Vec Doc Global) → list_all test (elements (value (DocList v))) ≡ list_all (λ d. test (value d)) v.items
all_elements test v = ap (list_all test) (elements-List v) ∙ list_all-map test value v.items

pub is_of_types-List : (x : Value) (v : Vec Doc Global) → is_of_types x (value (DocList v)) ≡ list_any (λ d. is_of_type x (value d)) v.items
is_of_types-List x v = ap (is_of_types x) (value-List v) ∙ ap (list_any (is_of_type x)) (elements_list-to_elements (map value v.items)) ∙ list_any-map (is_of_type x) value v.items

pub is_one_of-List : (x : Value) (v : Vec Doc Global) → is_one_of x (value (DocList v)) ≡ list_any (λ d. same x (value d)) v.items
is_one_of-List x v = ap (list_any (same x)) (elements-List v) ∙ list_any-map (same x) value v.items

pub on_elements-List : (p : ℕ → Bool) (v : Vec Doc Global) → on_elements p (value (DocList v)) ≡ p (length v.items)
on_elements-List p v =
    ap (on_elements p) (value-List v) ∙ ap (λ vs. p (length vs)) (elements_list-to_elements (map value v.items)) ∙ ap p (length-map v.items value)

pub all_members : (test : Text × Value → Bool) (m : Members) → list_all test (members (value (Dict m))) ≡ list_all test (members_value m)
all_members test m = ap (λ v. list_all test (members v)) (value-Dict m)
