use Rattle.std.proofs.Common.{◌≡◌, [], ◌∷◌, ◌∙◌, ◌&&◌, not, false, ap, sym}
use Rattle.std.proofs.lemmas.Result.{on_ok_weaker}
use Rattle.keywords.specs.Rows.{row_of}
use Rattle.json_doc.specs.NamedMembers.{name_text}
use Rattle.evaluation_log.specs.Notes.{needs_to_pass, no_notes, notes_of_both, outcome_notes}
use Rattle.evaluation_log.proofs.LogLaws.{name_after, index_after}
use Rattle.evaluation_log.proofs.log.Log.settle_part.Goals as goal

pub returns-in-Member : goal.returns-in-Member
returns-in-Member c older o m e valid =
    rw c.in-Member.is
    (on_ok_weaker c.push_name.result (λ pushed.
    pushed ∙ ap (λ n. notes_of_both n (record no_notes { names = name_text c.in-Member.name ∷ [] })) (c.cut_evaluated.ensures older (outcome_notes o) m e)
    ∙ name_after older o (name_text c.in-Member.name)) c.push_name.ensures)

pub returns-else-is_left_out : goal.returns-else-is_left_out
returns-else-is_left_out c older o m e valid =
    let meaning = (row_of c.args.keyword).meaning in
    let stays : (needs_to_pass meaning && not o.valid) ≡ false = ap (λ b. needs_to_pass meaning && not b) (sym valid) ∙ sym c.is_left_out.ensures ∙ c.if-is_left_out.false in
    rw (c.in-Element.is, stays)
    (on_ok_weaker c.push_index.result (λ pushed.
    pushed ∙ ap (λ n. notes_of_both n (record no_notes { indexes = c.in-Element.index ∷ [] })) (c.cut_evaluated-in-Element.ensures older (outcome_notes o) m e)
    ∙ index_after older o c.in-Element.index) c.push_index.ensures)
