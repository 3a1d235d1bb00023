use Rattle.std.proofs.Common.{arith}
use Rattle.std.proofs.lemmas.Bool.{eqb-false}
use Rattle.json_doc.specs.Docs.{value}
use Rattle.evaluator.proofs.PresentLaws.{nothing_annotates}
use Rattle.evaluator.proofs.present.Present.may_annotate.Goals as goal

pub returns : goal.returns
returns c a same e =
    nothing_annotates a (value c.args.self.now.schema.now) same (c.first_mark.ensures.passed 63 (omega arith) (omega (arith, c.first_mark.ensures.onward, eqb-false c.first_mark.result 63 e)))
