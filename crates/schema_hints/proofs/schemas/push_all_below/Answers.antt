use Rattle.definitions.specs.Values.{Text, Value, object}
use Rattle.json_doc.specs.Docs.{value, members_value, members_view}
use Rattle.json_doc.specs.Members.{members_left}
use Rattle.schema_hints.proofs.Firsts.{first_contained, rest_contained}
use Rattle.schema_hints.proofs.schemas.push_all_below.Goals as goal

pub loop-name-preserved : goal.loop-name-preserved
loop-name-preserved c =
    let l = c.loop-name.invariant in
    let all = members_value c.args.members.now in
    let first : Text × Value = (c.in-Some.name.now, value c.in-Some.member.now) in
    let step = c.in-Some.ensures.steps in
    record {
      left = rest_contained all _ first (members_left c.next.new.self) step l.left;
      schemas = λ d at old. c.push_below.ensures d (object (members_view c.args.members.now)) at (first_contained all _ first _ step l.left) (l.schemas d at old);
    }

pub returns-in_err-push_below : goal.returns-in_err-push_below
returns-in_err-push_below c =
    let l = c.loop-name.invariant in
    let all = members_value c.args.members.now in
    let first : Text × Value = (c.in-Some.name.now, value c.in-Some.member.now) in
    let step = c.in-Some.ensures.steps in
    λ d at old. c.push_below.ensures d (object (members_view c.args.members.now)) at (first_contained all _ first _ step l.left) (l.schemas d at old)
