-- What a `Doc` and `Members` stand for, one level at a time.
use Rattle.std.proofs.Common.{◌≡◌, List, [], ◌∷◌, map, String, Vec, Global, string_bytes, refl, sym, ap, ◌∙◌, rules, not}
use Rattle.definitions.specs.Values as json
use Rattle.definitions.specs.Values.{Text, Value, string, array, object, no_members, member, to_elements, to_members, elements_list, members_list, elements, same}
use Rattle.definitions.specs.Lists.{has_repeat}
use Rattle.definitions.specs.Assertions.{is_unique}
use Rattle.lemmas.proofs.Members.{to_members-members_list}
use Rattle.json_doc.specs.Docs.{value, value_step, members_step, object_members, members_view, members_value}
use Rattle.json_doc.specs.Members.{member_value}
use Rattle.json_doc.specs.SmallTexts.{short_text}
use Rattle.json_doc.specs.declared.small_text.SmallText.{SmallText}
use Rattle.json_doc.specs.declared.short_text.ShortText.{ShortText}
use Rattle.json_doc.specs.declared.doc.Doc.{Doc, Str, Short, List as DocList, Dict, the_lemmas}
use Rattle.json_doc.specs.declared.doc.Doc.TheViews.{roll-Members, out-Members}
use Rattle.json_doc.specs.declared.doc.Doc.TheFolds.{fold-roll-Members, fold_out-Members}
use Rattle.json_doc.specs.declared.doc.Doc.TheOpen.{Members-F}
use Rattle.json_doc.specs.declared.members.Members.{Members}

abbrev pub Entry : Type 0
Entry = SmallText × Doc

abbrev pub entries_view : List Entry → json.Members
entries_view es = object_members (map (λ e. (e.0, value e.1)) es)

pub value-Str : (s : String Global) → value (Str s) ≡ string (string_bytes s)
value-Str s = search (rules, the_lemmas)

pub value-Short : (s : ShortText) → value (Short s) ≡ string (short_text s)
value-Short s = search (rules, the_lemmas)

pub value-List : (v : Vec Doc Global) → value (DocList v) ≡ array (to_elements (map value v.items))
value-List v = search (rules, the_lemmas)

pub value-Dict : (m : Members) → value (Dict m) ≡ object (members_view m)
value-Dict m = search (rules, the_lemmas)

pub members_view-out : (m : Members) → members_view m ≡ entries_view (out-Members m).entries
members_view-out = fold_out-Members Value json.Members value_step members_step

pub members_view-roll : (m : Members-F Doc Members) → members_view (roll-Members m) ≡ entries_view m.entries
members_view-roll = fold-roll-Members Value json.Members value_step members_step

members_list-entries_view : (es : List Entry) → members_list (entries_view es) ≡ map member_value es
members_list-entries_view [] = refl
members_list-entries_view (e ∷ es) = ap (λ r. member_value e ∷ r) (members_list-entries_view es)

pub members_value-out : (m : Members) → members_value m ≡ map member_value (out-Members m).entries
members_value-out m = ap members_list (members_view-out m) ∙ members_list-entries_view (out-Members m).entries

pub members_value-roll : (m : Members-F Doc Members) → members_value (roll-Members m) ≡ map member_value m.entries
members_value-roll m = ap members_list (members_view-roll m) ∙ members_list-entries_view m.entries

pub elements_list-to_elements : (vs : List Value) → elements_list (to_elements vs) ≡ vs
elements_list-to_elements [] = refl
elements_list-to_elements (v ∷ vs) = ap (λ r. v ∷ r) (elements_list-to_elements vs)

pub to_members-value : (m : json.Members) (ms : List (Text × Value)) → ms ≡ members_list m → to_members ms ≡ m
to_members-value m ms e = ap to_members e ∙ to_members-members_list m

pub elements-List : (v : Vec Doc Global) → elements (value (DocList v)) ≡ map value v.items
elements-List v = ap elements (value-List v) ∙ elements_list-to_elements (map value v.items)

pub is_unique-List : (v : Vec Doc Global) → is_unique (value (DocList v)) ≡ not (has_repeat same (map value v.items))
is_unique-List v = ap (λ vs. not (has_repeat same vs)) (elements-List v)

-- objects of the same members are the same value
pub value-Dict-same : (m n : Members) → members_value m ≡ members_value n → value (Dict m) ≡ value (Dict n)
value-Dict-same m n e =
    value-Dict m ∙ ap object (sym (to_members-members_list (members_view m)) ∙ to_members-value (members_view n) (members_value m) e) ∙ sym (value-Dict n)
