use Rattle.std.proofs.Common.{◌≡◌, ◌++◌, drop, map, nat_cmp}
use Rattle.std.specs.BTreeSet.{contains_by}
use Rattle.std.specs.Cmp.Lexicographic.{slice_cmp}
use Rattle.definitions.specs.Evaluated.{once}
use Rattle.json_doc.specs.NamedMembers.{name_text}
use Rattle.applicators.proofs.Once.{unseen}
use Rattle.applicators.proofs.annotating.distinct_names.Given as goal

-- what is kept, and those that are left and weren't seen
abbrev pub invariant-loop-name : goal.invariant-loop-name
invariant-loop-name l =
    map name_text l.kept.items ++ unseen (λ m. contains_by (λ k. slice_cmp nat_cmp m k.now) l.seen) (map name_text (drop l.name-index l.names)) ≡ once (map name_text l.names)
