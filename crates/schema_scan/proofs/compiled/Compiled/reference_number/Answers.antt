use Rattle.std.proofs.Common.{ap, ◌∙◌}
use Rattle.std.specs.List.{slice_get}
use Rattle.schema_scan.specs.CompiledDocuments.{compiled_texts}
use Rattle.schema_scan.proofs.Known.{text-there}
use Rattle.schema_scan.proofs.compiled.Compiled.reference_number.Goals as goal

pub returns : goal.returns
unfolding compiled_texts
returns c = λ s inside has.
    let d = c.args.self.now in
    let text = c.args.reference.now in
    let there = text-there d s text inside has in
    ap (slice_get (compiled_texts d)) c.number.ensures ∙ d.by_text.found text there.0 there.1
