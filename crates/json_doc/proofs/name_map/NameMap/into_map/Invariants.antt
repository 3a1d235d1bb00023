use Rattle.std.proofs.Common.{◌≡◌, ◌++◌, length}
use Rattle.std.specs.Vec.Iter.{into_iter_items, into_iter_len}
use Rattle.json_doc.proofs.name_map.NameMap.into_map.Given as goal

abbrev pub invariant-loop-name : goal.invariant-loop-name
invariant-loop-name g l = record {
  all : l.yielded ++ into_iter_items l.name-iterator ≡ into_iter_items l.initial.name-iterator;
  put : l.map.entries ≡ l.yielded;
  left : into_iter_len l.name-iterator ≡ length (into_iter_items l.name-iterator);
}
