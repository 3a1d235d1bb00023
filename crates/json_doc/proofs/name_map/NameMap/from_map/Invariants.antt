use Rattle.std.proofs.Common.{◌≡◌, ◌++◌}
use Rattle.json_doc.proofs.name_map.NameMap.from_map.Given as goal

abbrev pub invariant-loop-name : goal.invariant-loop-name
invariant-loop-name g l = record {
  all : l.yielded ++ l.name-iterator ≡ l.initial.name-iterator;
  pushed : l.entries.items ≡ l.yielded;
}
