use Rattle.std.proofs.Common.{map, string_bytes, sym, ap, ◌∙◌, Bor}
use Rattle.definitions.specs.Values.{Text}
use Rattle.json_doc.specs.Docs.{value}
use Rattle.schema_scan.specs.Scans.{scanned_value}
use Rattle.schema_table.specs.Gathering.{gathered_patterns}
use Rattle.schema_table.proofs.Patterned.{document-patterns}
use Rattle.schema_scan.proofs.scanned.Scanned.patterns.Goals as goal

pub returns : goal.returns
unfolding scanned_value gathered_patterns
returns c =
    let s = c.args.self.now in
    ap (map (λ (t : Bor Text). t.now)) c.as_slice.ensures.value ∙ s.of_document.patterns ∙ sym (document-patterns (string_bytes s.base) (value s.document.now))
