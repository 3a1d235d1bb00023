use Rattle.std.proofs.Common.{◌≡◌, map, subst, sym}
use Rattle.output_texts.specs.Outputs.{counted_units, reported_units}
use Rattle.basic_output.specs.Pieces.{unit_text}
use Rattle.basic_output.specs.Units.{unit_texts}
use Rattle.evaluator.proofs.ReportLaws.{gives_made, gives_same}
use Rattle.evaluator.proofs.report.reported.Goals as goal

pub returns-in-Ok : goal.returns-in-Ok
returns-in-Ok c = λ o valid noted costly.
    let j = c.in-Ok.ensures o valid noted costly in
    let units = subst (λ u. unit_texts (counted_units c.in-Ok.valid u) ≡ map (unit_text c.in-Ok.valid) (reported_units o)) (sym c.deref.ensures) j.1 in
    gives_same c.noted_report.result j.2 (gives_made c.noted_report.result o c.in-Ok.valid (sym j.0) c.noted_report.ensures.valid (c.noted_report.ensures.text o j.0 units) c.noted_report.ensures.err)
