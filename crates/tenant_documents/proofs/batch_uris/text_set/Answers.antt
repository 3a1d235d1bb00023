use Rattle.std.proofs.Common.{[], List, Bor, get_or, map, ap, ◌∙◌}
use Rattle.std.proofs.lemmas.List.{take_all}
use Rattle.std.specs.BTreeSet as tree
use Rattle.std.specs.List.{list_any}
use Rattle.definitions.specs.Values.{Text, same_text}
use Rattle.lemmas.proofs.Texts.{text_order}
use Rattle.tenant_documents.proofs.RepeatedTexts.{at_place, seen_more}
use Rattle.tenant_documents.proofs.batch_uris.text_set.Goals as goal

pub loop-text-preserved : goal.loop-text-preserved
loop-text-preserved c q =
    let none : Bor Text = record { ref_ptr = (0, 0); now = [] } in
    let xs = c.args.texts.now in
    let i = c.loop-text.text-index in
    let lt = c.loop-text-test.true in
    let key = get_or xs i none in
    seen_more xs i key q (tree.contains text_order c.loop-text.set q) (tree.contains text_order c.insert.new.self q) lt (at_place xs i none lt)
    (c.in_ok-insert.ensures.updates.0 q) (c.loop-text.invariant q)

pub returns : goal.returns
returns c q =
    c.loop-text.invariant q
    ∙ ap (λ (ts : List (Bor Text)). list_any (same_text q.now) (map (λ (t : Bor Text). t.now) ts)) (take_all c.loop-text.text-index c.args.texts.now c.loop-text-test.false)
