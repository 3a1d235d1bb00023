use Rattle.std.proofs.Common.{sym, subst}
use Rattle.definitions.specs.Values.{Text, Value, object}
use Rattle.json_doc.specs.Docs.{value, members_value, members_view}
use Rattle.json_doc.specs.Members.{members_left}
use Rattle.schema_hints.specs.HintViews.{AreOfSchemas}
use Rattle.schema_hints.proofs.Firsts.{first_contained, rest_contained}
use Rattle.schema_hints.proofs.finding.Findings.note_schema.Goals as goal

pub returns-in_err-note_hint : goal.returns-in_err-note_hint
returns-in_err-note_hint c =
    let l = c.loop-name.invariant in
    let members = c.args.place.now.members.now in
    let first : Text × Value = (c.in-Some.name.now, value c.in-Some.member.now) in
    λ d at old. c.note_hint.ensures d (object (members_view members)) at (first_contained (members_value members) _ first _ c.in-Some.ensures.steps l.left) (l.hints d at old)

pub loop-name-preserved : goal.loop-name-preserved
loop-name-preserved c =
    let l = c.loop-name.invariant in
    let members = c.args.place.now.members.now in
    let first : Text × Value = (c.in-Some.name.now, value c.in-Some.member.now) in
    record {
      left = rest_contained (members_value members) _ first (members_left c.next.new.self) c.in-Some.ensures.steps l.left;
      hints = λ d at old. subst (AreOfSchemas d) (sym c.note_anchor.ensures)
          (c.note_hint.ensures d (object (members_view members)) at (first_contained (members_value members) _ first _ c.in-Some.ensures.steps l.left) (l.hints d at old));
    }

pub returns-in_err-note_anchor : goal.returns-in_err-note_anchor
returns-in_err-note_anchor c =
    let l = c.loop-name.invariant in
    let members = c.args.place.now.members.now in
    let first : Text × Value = (c.in-Some.name.now, value c.in-Some.member.now) in
    λ d at old. subst (AreOfSchemas d) (sym c.note_anchor.ensures)
    (c.note_hint.ensures d (object (members_view members)) at (first_contained (members_value members) _ first _ c.in-Some.ensures.steps l.left) (l.hints d at old))
