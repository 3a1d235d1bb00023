use Rattle.std.proofs.Common.{sym, subst}
use Rattle.definitions.specs.Values.{Text, Value, members}
use Rattle.json_doc.specs.Docs.{value}
use Rattle.json_doc.specs.Members.{members_left}
use Rattle.schema_hints.specs.SchemaPlaces.{IsSchemaAt}
use Rattle.schema_hints.proofs.Firsts.{first_contained, rest_contained}
use Rattle.schema_hints.proofs.schemas.push_members.Goals as goal

pub loop-name-preserved : goal.loop-name-preserved
loop-name-preserved c =
    let l = c.loop-name.invariant in
    let all = members (value c.args.map.now) in
    let first : Text × Value = (c.in-Some-2.name.now, value c.in-Some-2.member.now) in
    let step = c.in-Some-2.ensures.steps in
    record {
      left = rest_contained all _ first (members_left c.next.new.self) step l.left;
      schemas = λ d are old. c.push_schema.ensures d
          (subst (λ at. IsSchemaAt d at first.1) (sym c.in_ok-extended.ensures) (are first.0 first.1 (first_contained all _ first _ step l.left))) (l.schemas d are old);
    }

pub returns-in_err-push_schema : goal.returns-in_err-push_schema
returns-in_err-push_schema c =
    let l = c.loop-name.invariant in
    let all = members (value c.args.map.now) in
    let first : Text × Value = (c.in-Some-2.name.now, value c.in-Some-2.member.now) in
    let step = c.in-Some-2.ensures.steps in
    λ d are old. c.push_schema.ensures d
    (subst (λ at. IsSchemaAt d at first.1) (sym c.in_ok-extended.ensures) (are first.0 first.1 (first_contained all _ first _ step l.left))) (l.schemas d are old)
