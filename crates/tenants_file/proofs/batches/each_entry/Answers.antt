use Rattle.std.proofs.Common.{refl, sym, ◌∙◌, arith}
use Rattle.definitions.specs.Batches.{entry_in}
use Rattle.json_doc.specs.Docs.{value}
use Rattle.tenants_file.specs.Entries.{entry_view}
use Rattle.tenants_file.proofs.Each.{each_map, each_done, each_none}
use Rattle.tenants_file.proofs.batches.each_entry.Goals as goal

pub returns-in-None-clause-err : goal.returns-in-None-clause-err
returns-in-None-clause-err c = λ other. (
  refl,
  each_map entry_in value c.args.items.now
      ∙ each_none (λ d. entry_in (value d)) c.args.items.now c.loop-item.item-index c.item-item.result c.loop-item-test.true c.item-item.is (sym c.in-None.ensures),
)

pub returns-clause-ok : goal.returns-clause-ok
returns-clause-ok c =
    each_map entry_in value c.args.items.now
    ∙ each_done (λ d. entry_in (value d)) entry_view c.args.items.now c.loop-item.entries.items c.loop-item.item-index (omega arith) c.loop-item.invariant
