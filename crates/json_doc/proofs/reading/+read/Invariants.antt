use Rattle.std.proofs.Common.{◌≡◌, ◌++◌, length}
use Rattle.std.specs.Vec.Iter.{into_iter_items, into_iter_len}
use Rattle.json_doc.specs.Docs.{members_value}
use Rattle.json_doc.proofs.Converted.{AreItems, AreMembers}
use Rattle.json_doc.proofs.reading.+read.Given as goal

abbrev pub invariant-docs_of-loop-item : goal.invariant-docs_of-loop-item
invariant-docs_of-loop-item l = record {
  all : l.yielded ++ into_iter_items l.item-iterator ≡ into_iter_items l.initial.item-iterator;
  read : AreItems l.yielded l.docs.items;
  left : into_iter_len l.item-iterator ≡ length (into_iter_items l.item-iterator);
}

abbrev pub invariant-dict_of-loop-name : goal.invariant-dict_of-loop-name
invariant-dict_of-loop-name l = record {
  all : l.yielded ++ l.name-iterator ≡ l.initial.name-iterator;
  read : AreMembers l.yielded (members_value l.dict);
}
