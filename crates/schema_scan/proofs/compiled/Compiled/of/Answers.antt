use Rattle.std.proofs.Common.{◌≡◌, [], map, string_bytes, subst, refl, sym, ap, ◌∙◌}
use Rattle.std.specs.List.{list_all, position_from}
use Rattle.definitions.specs.Patterns.{regular_search}
use Rattle.definitions.specs.Scanning.{scan_fault}
use Rattle.definitions.specs.Searches.{is_regular, patterns}
use Rattle.definitions.specs.Values.{is_well_formed}
use Rattle.json_doc.specs.Docs.{value}
use Rattle.schema_scan.specs.CompiledDocuments.{compiled_base, compiled_value}
use Rattle.schema_scan.specs.PatternTables.{holds_pattern}
use Rattle.schema_table.specs.Gathering.{IsTableOf, anchor_mark, table_identifiers, table_marks, table_texts, table_uris}
use Rattle.schema_table.specs.Lookups.{has_mark}
use Rattle.schema_table.specs.Spots.{spots}
use Rattle.text_numbers.specs.TextNumbers.{AreNumbers}
use Rattle.schema_scan.proofs.compiled.Compiled.of.Goals as goal

pub invariant_of-result : goal.invariant_of-result
unfolding table_uris table_identifiers table_texts table_marks
invariant_of-result c =
    let same : value c.in_ok-copy.field-0 ≡ value c.args.document.now = c.in_ok-copy.ensures.ok in
    record {
      faultless = ap (scan_fault (string_bytes c.args.base)) same ∙ c.requires.faultless;
      well_formed = ap is_well_formed same ∙ c.in_ok-copy.ensures.well_formed;
      regular = ap (is_regular regular_search) same ∙ c.requires.regular;
      built = ap (λ v. list_all (holds_pattern c.args.pattern_table) (patterns v)) same ∙ c.requires.built;
      of_document = subst (λ v. IsTableOf c.args.table (spots [] 0 (string_bytes c.args.base) v)) (sym same) c.requires.of_document;
      by_uri = subst (λ us. AreNumbers c.in_ok-uri_numbers.uri_numbers (map string_bytes us)) c.deref-2.ensures.value c.in_ok-uri_numbers.ensures;
      by_identifier = subst (λ ids. AreNumbers c.in_ok-identifier_numbers.identifier_numbers (map string_bytes ids)) c.deref-3.ensures.value c.in_ok-identifier_numbers.ensures;
      by_text = subst (λ ts. AreNumbers c.in_ok-text_numbers.text_numbers (map string_bytes ts)) c.deref-4.ensures.value c.in_ok-text_numbers.ensures;
      by_anchor = λ uri name. c.in_ok-anchor_numbers.ensures uri name ∙ ap (λ anchors. position_from (has_mark uri name) 0 (map anchor_mark anchors)) c.deref.ensures.value;
    }

pub returns : goal.returns
unfolding compiled_base compiled_value
returns c = (refl, c.in_ok-copy.ensures.ok)
