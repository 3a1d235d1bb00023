use Rattle.std.proofs.Common.{◌≡◌, ◌∙◌, sym, ap}
use Rattle.definitions.specs.Applied.{Application, Outcome}
use Rattle.definitions.specs.Outcomes.{outcome_of_uses}
use Rattle.json_doc.specs.Docs.{value}
use Rattle.applicators.specs.Subjects.{subject_value}
use Rattle.evaluation_context.specs.Frames.{Frame, frame_standing}
use Rattle.evaluation_context.specs.Standings.{application_at}
use Rattle.evaluator.specs.Groups.{first_groups}
use Rattle.evaluation_log.specs.Logs.{log_view}
use Rattle.evaluation_log.specs.Notes.{notes_of_both, outcome_notes}
use Rattle.evaluator.specs.Rounds.{groups_uses}
use Rattle.evaluator.proofs.CombinedLaws.{counted_lengths, counted_noted}
use Rattle.evaluator.proofs.LeafLaws.{leaf_uses}
use Rattle.evaluator.proofs.ObjectLaws.{object_by_groups}
use Rattle.evaluator.proofs.applying.Evaluation.apply_leaf.Goals as goal

pub returns-clause-outcome : goal.returns-clause-outcome
returns-clause-outcome c a left at =
    let l = c.args.self.now.linked.now in
    let s = value c.args.present.now.schema.now in
    let same : a.schema.value ≡ s = ap (λ (b : Application). b.schema.value) at.there in
    let us = groups_uses l left a first_groups in
    let n = log_view c.args.self.now.log in
    let mid = log_view c.count_one.new.self in
    let used = c.in_ok-valid.ensures.outcome a left at in
    let object = ap (outcome_of_uses a) (leaf_uses l left a s same c.requires.leaf) ∙ sym (object_by_groups l left a) in
    record {
      found = used.found ∙ ap (λ (o : Outcome). o.valid) object;
      noted =
          c.in_ok-settle_object.ensures.noted a n us
          (at.there ∙ ap (λ (f : Frame). application_at (frame_standing f) s (subject_value c.args.subject)) (sym c.in_ok-valid.ensures.stays.back))
          (c.mark-mark.ensures ∙ counted_lengths n mid c.count_one.ensures)
          (counted_noted a n mid (log_view c.use_assertions.new.self.log) us c.count_one.ensures used.noted) used.found
          ∙ ap (λ (o : Outcome). notes_of_both n (outcome_notes o)) object;
      err = tt;
    }
