use Rattle.std.proofs.Common.{◌≡◌, ◌||◌, drop}
use Rattle.std.specs.BTreeSet.{contains}
use Rattle.std.specs.List.{list_any}
use Rattle.std.specs.Ordering.{eq_by_cmp}
use Rattle.applicators.proofs.planning.unevaluated.set_of.Given as goal

-- a key is in the set, or among those that are left
abbrev pub invariant-loop-key : goal.invariant-loop-key
invariant-loop-key g l =
    (q : g.row.K.Denot) → (contains g.K.Ord.cmp l.seen q || list_any (λ k. eq_by_cmp g.K.Ord.cmp k q) (drop l.key-index l.keys)) ≡ list_any (λ k. eq_by_cmp g.K.Ord.cmp k q) l.keys
