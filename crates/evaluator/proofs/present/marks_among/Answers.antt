use Rattle.std.proofs.Common.{◌≡◌, ◌*◌, ◌^◌, ◌%◌, ◌∙◌, ap, subst}
use Rattle.std.specs.Int.{bit_at}
use Rattle.std.specs.Int.RustNames.{bit_or}
use Rattle.std.specs.List.{list_any}
use Rattle.definitions.specs.Values.{Text, Value}
use Rattle.json_doc.specs.Docs.{value}
use Rattle.json_doc.specs.NamedMembers.{name_text, named_left}
use Rattle.json_doc.specs.Members.{members_left}
use Rattle.evaluator.specs.Presents.{has_mark}
use Rattle.evaluator.proofs.PresentLaws.{mark_within, marked_on}
use Rattle.evaluator.proofs.present.marks_among.Goals as goal

pub loop-name-preserved : goal.loop-name-preserved
loop-name-preserved c i zero none =
    let m : Text × Value = (name_text c.in-Some.name, value c.in-Some.field-0-1.now) in
    marked_on c.loop-name.marks m (named_left c.next.new.self) (members_left c.args.members) (mark_within m.0)
    (λ j unset rest. c.loop-name.invariant j unset (ap (list_any (has_mark j)) c.in-Some.ensures.steps ∙ rest)) i
    (subst (λ k. bit_at (bit_or c.loop-name.marks (1 * 2 ^ k % 2 ^ 64)) i ≡ 0) (c.mark_of.ensures.mark m.0 c.keyword-keyword.ensures) zero) none
