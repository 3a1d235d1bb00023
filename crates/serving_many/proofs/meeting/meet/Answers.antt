use Rattle.std.proofs.Common.{◌∙◌, sym, ap, subst, inl, inr, ⊎_elim}
use Rattle.std.proofs.lemmas.Bool.{cases_eq}
use Rattle.network.specs.Readiness.{has_bytes, IsAmong}
use Rattle.network.specs.Outboxes.{unsent_at}
use Rattle.serving_many.proofs.Among.{same_number, no_some}
use Rattle.serving_many.proofs.Steps.{all_needed}
use Rattle.serving_many.proofs.meeting.meet.Goals as goal

pub returns-then-take_turn-clause-due : goal.returns-then-take_turn-clause-due
returns-then-take_turn-clause-due g c old k p now =
    let e = c.wait_for.ensures in
    ⊎_elim
    (λ same. ⊎_elim (λ noted. inr (subst (λ i. IsAmong i c.wait_for.new.waiting.items) (sym same) noted))
    (λ none. absurd (no_some p (unsent_at c.wait_for.new.outbox k) now (ap (unsent_at c.wait_for.new.outbox) same ∙ none))) e.noted)
    (λ ne. ⊎_elim (λ d. inl (e.step.due k (has_bytes p) ne (c.take_turn.ensures.step.due k (has_bytes p) ne d))) (λ m. inr (e.waiting k m))
    (old k p (λ same. ne (sym (same_number c.in-Ready.id k (sym c.in-Ready.is ∙ same)))) (sym (c.take_turn.ensures.step.unsent k ne) ∙ sym (e.step.unsent k ne) ∙ now)))
    (cases_eq k c.in-Ready.id)

pub returns-then-take_turn-clause-needed : goal.returns-then-take_turn-clause-needed
returns-then-take_turn-clause-needed g c =
    all_needed c.wait_for.ensures.step (c.wait_for.ensures.needed c.take_turn.ensures.needed) (all_needed c.take_turn.ensures.step c.take_turn.ensures.needed c.requires.needed)
