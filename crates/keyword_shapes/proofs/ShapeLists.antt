-- The shapes of lists and objects, read off the documents that stand for them.
use Rattle.std.proofs.Common.{◌≡◌, List, map, length, nat_lt, Bool, ◌&&◌, Vec, Global, ap, ◌∙◌}
use Rattle.std.proofs.lemmas.List.{length-map}
use Rattle.std.proofs.lemmas.List.Folds.{list_all-map}
use Rattle.std.specs.List.{list_all}
use Rattle.definitions.specs.Values.{Value, is_string, to_elements, elements_list}
use Rattle.definitions.specs.Shapes.{is_type_name, are_type_names, is_text_list, are_text_lists, is_schema, is_schema_list, is_schema_map}
use Rattle.json_doc.specs.Docs.{value, members_value}
use Rattle.json_doc.specs.declared.doc.Doc.{Doc, List as DocList, Dict}
use Rattle.json_doc.specs.declared.members.Members.{Members}
use Rattle.json_doc.proofs.Views.{value-List, value-Dict, elements_list-to_elements}

list_all-elements : (test : Value → Bool) (ds : List Doc) → list_all test (elements_list (to_elements (map value ds))) ≡ list_all (λ d. test (value d)) ds
list_all-elements test ds = ap (list_all test) (elements_list-to_elements (map value ds)) ∙ list_all-map test value ds

length-elements : (ds : List Doc) → length (elements_list (to_elements (map value ds))) ≡ length ds
length-elements ds = ap length (elements_list-to_elements (map value ds)) ∙ length-map ds value

pub is_text_list-List : (v : Vec Doc Global) → is_text_list (value (DocList v)) ≡ list_all (λ d. is_string (value d)) v.items
is_text_list-List v = ap is_text_list (value-List v) ∙ list_all-elements is_string v.items

pub are_type_names-List : (v : Vec Doc Global) → are_type_names (value (DocList v)) ≡ (nat_lt 0 (length v.items) && list_all (λ d. is_type_name (value d)) v.items)
are_type_names-List v =
    ap are_type_names (value-List v)
    ∙ ap (λ b. nat_lt 0 (length (elements_list (to_elements (map value v.items)))) && b) (list_all-elements is_type_name v.items)
    ∙ ap (λ n. nat_lt 0 n && list_all (λ d. is_type_name (value d)) v.items) (length-elements v.items)

pub is_schema_list-List : (v : Vec Doc Global) → is_schema_list (value (DocList v)) ≡ (nat_lt 0 (length v.items) && list_all (λ d. is_schema (value d)) v.items)
is_schema_list-List v =
    ap is_schema_list (value-List v)
    ∙ ap (λ b. nat_lt 0 (length (elements_list (to_elements (map value v.items)))) && b) (list_all-elements is_schema v.items)
    ∙ ap (λ n. nat_lt 0 n && list_all (λ d. is_schema (value d)) v.items) (length-elements v.items)

pub is_schema_map-Dict : (m : Members) → is_schema_map (value (Dict m)) ≡ list_all (λ e. is_schema e.1) (members_value m)
is_schema_map-Dict m = ap is_schema_map (value-Dict m)

pub are_text_lists-Dict : (m : Members) → are_text_lists (value (Dict m)) ≡ list_all (λ e. is_text_list e.1) (members_value m)
are_text_lists-Dict m = ap are_text_lists (value-Dict m)
