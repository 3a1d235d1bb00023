use Rattle.std.proofs.Common.{[], Bor, get_or, option_map, ap, ◌∙◌}
use Rattle.std.specs.BTreeSet as tree
use Rattle.definitions.specs.Values.{Text}
use Rattle.lemmas.proofs.Texts.{text_order}
use Rattle.tenant_documents.proofs.RepeatedTexts.{at_place, found_again, found_new, seen_more, was_seen, was_unseen}
use Rattle.tenant_documents.proofs.repeated_texts.least_repeat.Goals as goal
use Rattle.tenant_documents.proofs.repeated_texts.least_repeat.Goals.{then-not-branch, else-not-branch}

pub loop-text-preserved : goal.loop-text-preserved
loop-text-preserved c =
    let none : Bor Text = record { ref_ptr = (0, 0); now = [] } in
    let xs = c.args.texts.now in
    let i = c.loop-text.text-index in
    let lt = c.loop-text-test.true in
    let key = get_or xs i none in
    let is = at_place xs i none lt in
    let inv = c.loop-text.invariant in
    let here = inv.seen key in
    record {
      seen = λ q. seen_more xs i key q (tree.contains text_order c.loop-text.seen q) (tree.contains text_order c.insert.new.self q) lt is
          (c.in_ok-insert.ensures.updates.0 q) (inv.seen q);
      least = elim c.if-not-branch.branch [
        | then-not-branch w ↦ ap (option_map (λ (t : Bor Text). t.now)) w.found-is
            ∙ found_again xs i key (option_map (λ (t : Bor Text). t.now) c.loop-text.found) w.lesser.result.now lt is
            (was_seen c.in_ok-insert.field-0 (tree.contains text_order c.loop-text.seen key) c.in_ok-insert.ensures.added w.if-not-branch.true ∙ here)
            inv.least w.lesser.ensures
        | else-not-branch w ↦ ap (option_map (λ (t : Bor Text). t.now)) w.found-is
            ∙ found_new xs i key (option_map (λ (t : Bor Text). t.now) c.loop-text.found) lt is
            (was_unseen c.in_ok-insert.field-0 (tree.contains text_order c.loop-text.seen key) c.in_ok-insert.ensures.added w.if-not-branch.false ∙ here)
            inv.least
      ];
    }
