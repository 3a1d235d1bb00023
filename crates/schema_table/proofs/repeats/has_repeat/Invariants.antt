use Rattle.std.proofs.Common.{◌≡◌, drop}
use Rattle.std.specs.BTreeSet as tree
use Rattle.std.specs.Ordering.{eq_by_cmp}
use Rattle.definitions.specs.Lists.{has_repeat}
use Rattle.schema_table.proofs.SeenKeys.{repeats}
use Rattle.schema_table.proofs.repeats.has_repeat.Given as goal

abbrev pub invariant-loop-key : goal.invariant-loop-key
invariant-loop-key g l =
    has_repeat (eq_by_cmp g.K.Ord.cmp) l.keys ≡ repeats (eq_by_cmp g.K.Ord.cmp) (tree.contains g.K.Ord.cmp l.seen) (drop l.key-index l.keys)
