use Rattle.std.specs.List.Sorted.{IsStrictlySortedBy}
use Rattle.json_doc.proofs.name_map.NameMap.new.Goals as goal

pub invariant_of-result : goal.invariant_of-result
unfolding IsStrictlySortedBy
invariant_of-result g c = rw c.new.ensures.items tt
