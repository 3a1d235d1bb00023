use Rattle.std.proofs.Common.{rules, take}
use Rattle.document_file.proofs.Puts.{all_ascend, put_next}
use Rattle.document_file.proofs.crashing.put_all.Goals as goal

pub loop-row-preserved : goal.loop-row-preserved
loop-row-preserved g c = (
  λ before up held. put_next (g.D.DocumentStore.holds c.put.new.self) before c.args.rows.now c.loop-row.row-index _ (search rules)
      (c.in_ok-put.ensures.ok _ (all_ascend before (take c.loop-row.row-index c.args.rows.now) up) (c.loop-row.invariant.0 before up held)),
  search rules,
)
