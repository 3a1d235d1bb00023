use Rattle.std.proofs.Common.{[], subst, sym, ap, ◌∙◌}
use Rattle.definitions.specs.Scanning.{scan_fault}
use Rattle.json_doc.specs.Docs.{value}
use Rattle.schema_table.specs.Gathering.{IsGathered}
use Rattle.schema_table.specs.Spots.{spots}
use Rattle.schema_scan.proofs.scanning.scan.Goals as goal

pub new-requires-clause-faultless : goal.new-requires-clause-faultless
new-requires-clause-faultless c = ap (λ base. scan_fault base (value c.args.document.now)) (sym c.as_str.ensures.value) ∙ c.in-Ok.ensures.sound

pub new-requires-clause-of_document : goal.new-requires-clause-of_document
new-requires-clause-of_document c =
    subst (λ base. IsGathered c.in-Ok.gathered (spots [] 0 base (value c.args.document.now))) c.as_str.ensures.value c.in-Ok.ensures.ok
