use Rattle.std.proofs.Common.{ap, ◌∙◌}
use Rattle.std.specs.List.{slice_get}
use Rattle.definitions.specs.Searches.{patterns}
use Rattle.definition_laws.proofs.Occurrences.{all_pass_in, in_from_contains}
use Rattle.json_doc.specs.Docs.{value}
use Rattle.schema_scan.specs.CompiledDocuments.{compiled_value}
use Rattle.schema_scan.specs.PatternTables.{holds_pattern, table_patterns}
use Rattle.schema_scan.proofs.HeldPatterns.{numbered_text}
use Rattle.schema_scan.proofs.compiled.Compiled.pattern_number.Goals as goal

pub returns : goal.returns
unfolding compiled_value holds_pattern table_patterns
returns c = λ there.
    let d = c.args.self.now in
    let t = d.pattern_table in
    let text = c.args.text.now in
    let texts = patterns (value d.document) in
    ap (slice_get t.patterns.items) c.number.ensures
    ∙ numbered_text t.numbers t.patterns.items text t.numbered (all_pass_in (holds_pattern t) texts text d.built (in_from_contains texts text there))
