-- Of anchors that stand once the dynamic ones are found among all.
use Rattle.std.proofs.Common.{◌≡◌, ◌&&◌, List, [], ◌∷◌, Bool, true, false, cond, map, Option, Some, None, option_and_then, string_bytes, refl, sym, ap, ap₂, ◌∙◌}
use Rattle.std.proofs.lemmas.Bool.{and_parts, or_parts}
use Rattle.std.specs.List.{find, list_any}
use Rattle.definitions.specs.Lists.{has_repeat}
use Rattle.definitions.specs.Scanning.{same_anchor, scan_faults}
use Rattle.definitions.specs.Schemas.{document_from}
use Rattle.definitions.specs.Targets.{schema_with_dynamic_anchor}
use Rattle.definitions.specs.Values.{Text, same_text}
use Rattle.definition_laws.proofs.AcceptedDocuments.{first_none, scanned}
use Rattle.json_doc.specs.Docs.{value}
use Rattle.lemmas.proofs.Texts.{same_text_is}
use Rattle.schema_table.specs.Gathering.{Mark, mark_pair, table_marks}
use Rattle.schema_table.specs.Lookups.{has_dynamic_mark, has_mark, marked_schema}
use Rattle.schema_scan.specs.CompiledDocuments.{compiled_schemas}
use Rattle.schema_scan.specs.declared.compiled.Compiled.{Compiled}
use Rattle.schema_table.proofs.Indexing.{document-anchors}
use Rattle.schema_scan.proofs.Owned.{owned-dynamically_anchored}

abbrev pub dynamic_alone : Option Mark → Option Mark
dynamic_alone None = None
dynamic_alone (Some m) = cond m.dynamic (Some m) None

module _ (uri name : Text) where
  none_alike : (ms : List Mark) → list_any (same_anchor (uri, name)) (map mark_pair ms) ≡ false → find (has_dynamic_mark uri name) ms ≡ None
  none_alike [] e = refl
  none_alike (m ∷ ms) e =
      let parts = or_parts (has_mark uri name m) (list_any (same_anchor (uri, name)) (map mark_pair ms)) e in
      by m.dynamic (has_mark uri name m) (find (has_dynamic_mark uri name) ms) parts.0 (none_alike ms parts.1)
    where
      by : (d h : Bool) (o : Option Mark) → h ≡ false → o ≡ None → cond (d && h) (Some m) o ≡ None
      by true true o here rest = cc
      by true false o here rest = rest
      by false h o here rest = rest

  same_pair : (m : Mark) → has_mark uri name m ≡ true → mark_pair m ≡ (uri, name)
  same_pair m e =
      let parts = and_parts (same_text uri m.resource) (same_text name m.name) e in
      ap₂ (λ (u n : Text). (u, n)) (sym (same_text_is uri m.resource parts.0)) (sym (same_text_is name m.name parts.1))

  pub dynamic-one : (ms : List Mark) → has_repeat same_anchor (map mark_pair ms) ≡ false → find (has_dynamic_mark uri name) ms ≡ dynamic_alone (find (has_mark uri name) ms)
  dynamic-one [] e = refl
  dynamic-one (m ∷ ms) e =
      let parts = or_parts (list_any (same_anchor (mark_pair m)) (map mark_pair ms)) (has_repeat same_anchor (map mark_pair ms)) e in
      by m.dynamic (has_mark uri name m) refl refl parts.0 (dynamic-one ms parts.1)
    where
      by : (d h : Bool) → m.dynamic ≡ d → has_mark uri name m ≡ h → list_any (same_anchor (mark_pair m)) (map mark_pair ms) ≡ false
          → find (has_dynamic_mark uri name) ms ≡ dynamic_alone (find (has_mark uri name) ms)
          → cond (d && h) (Some m) (find (has_dynamic_mark uri name) ms) ≡ dynamic_alone (cond h (Some m) (find (has_mark uri name) ms))
      by true true is here once rest = ap (λ b. cond b (Some m) None) (sym is)
      by false true is here once rest =
          none_alike ms (ap (λ p. list_any (same_anchor p) (map mark_pair ms)) (sym (same_pair m here)) ∙ once) ∙ ap (λ b. cond b (Some m) None) (sym is)
      by true false is here once rest = rest
      by false false is here once rest = rest

-- the anchors of a document stand once
once : (d : Compiled) (uri name : Text) → find (has_dynamic_mark uri name) (table_marks d.table) ≡ dynamic_alone (find (has_mark uri name) (table_marks d.table))
once d uri name =
    let base = string_bytes d.base in
    let v = value d.document in
    dynamic-one uri name (table_marks d.table)
    (ap (λ ms. has_repeat same_anchor (map mark_pair ms)) d.of_document.marks
    ∙ ap (has_repeat same_anchor) (sym (document-anchors base v))
    ∙ (scanned (document_from base v) (first_none (scan_faults base v) d.faultless)).anchors)

pub owned-dynamic : (d : Compiled) (uri name : Text) (m : Option Mark) → m ≡ find (has_mark uri name) (table_marks d.table)
    → option_and_then (marked_schema (value d.document)) (dynamic_alone m) ≡ schema_with_dynamic_anchor (compiled_schemas d) uri name
owned-dynamic d uri name m e =
    ap (option_and_then (marked_schema (value d.document))) (ap dynamic_alone e ∙ sym (once d uri name)) ∙ owned-dynamically_anchored d uri name
