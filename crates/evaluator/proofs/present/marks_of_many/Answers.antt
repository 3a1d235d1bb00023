use Rattle.json_doc.specs.Docs.{members_value}
use Rattle.json_doc.specs.Members.{members_left}
use Rattle.evaluator.proofs.DollarLaws.{all_in_parts, dollars_marked}
use Rattle.evaluator.proofs.present.marks_of_many.Goals as goal

pub returns : goal.returns
returns c i zero =
    let cut = c.cut_at_dollar_names-cut in
    let within = members_left cut.result.within in
    all_in_parts c.marks_among.result c.dollar_marks.result c.marks_among-2.result i (members_left cut.result.before) within (members_left cut.result.after) (members_value c.args.members.now)
    cut.ensures.all (c.marks_among.ensures i) (dollars_marked c.dollar_marks.result i within c.dollar_marks.ensures cut.ensures.within) (c.marks_among-2.ensures i) zero
