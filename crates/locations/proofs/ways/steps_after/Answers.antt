use Rattle.std.proofs.Common.{refl, ap, ◌∙◌}
use Rattle.locations.proofs.WayLaws.{one_less, one_passed, one_taken}
use Rattle.locations.proofs.ways.steps_after.Goals as goal
use Rattle.locations.proofs.ways.steps_after.Goals.{then-index-start+in_ok-push, else-index-start}

pub loop-index-preserved : goal.loop-index-preserved
loop-index-preserved c =
    let l = c.loop-index in
    let left =
    one_less c.args.way.now.steps.items c.deref-kept-items.result.now l.index _ _ l.names.now c.cut_step.result.1.now
    c.deref-kept-items.ensures.value c.loop-index-test.true refl l.invariant.cut c.cut_step.ensures.rest in
    record {
      utf8 = c.cut_step.ensures.text;
      cut = left.0;
      taken =
          elim c.if-index-start.branch [
            | then-index-start+in_ok-push w ↦
                one_taken c.args.start l.index l.steps.items _ c.cut_step.result.0 _ _ _ _ w.if-index-start.true left.1
                (ap (λ v. v.items) w.steps-is ∙ w.in_ok-push.ensures.items) c.cut_step.ensures.step l.invariant.taken
            | else-index-start w ↦
                one_passed c.args.start l.index l.steps.items _ _ _ _ _ w.if-index-start.false left.1 (ap (λ v. v.items) w.steps-is) l.invariant.taken
          ];
    }
