use Rattle.std.proofs.Common.{sym, arith}
use Rattle.std.proofs.lemmas.Bool.{eqb-false}
use Rattle.definitions.specs.Values.{members}
use Rattle.json_doc.specs.Docs.{value}
use Rattle.keywords.specs.Rows.{row_of}
use Rattle.evaluator.proofs.PresentLaws.{absent}
use Rattle.evaluator.proofs.present.Present.may_have.Goals as goal

pub returns : goal.returns
returns c e =
    let mark = c.mark_of_keyword-mark.result in
    absent (row_of c.args.keyword).name mark (members (value c.args.self.now.schema.now)) (sym c.mark_of_keyword-mark.ensures.mark)
    (c.first_mark.ensures.passed mark (omega arith) (omega (arith, c.first_mark.ensures.onward, eqb-false c.first_mark.result mark e)))
