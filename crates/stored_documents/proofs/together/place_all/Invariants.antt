use Rattle.std.proofs.Common.{◌≡◌, ◌+◌, ◌≤◌, ◌++◌, length, vec_len}
use Rattle.std.specs.Prelude.{vec_capacity}
use Rattle.std.specs.Vec.Iter.{into_iter_items, into_iter_len}
use Rattle.stored_documents.specs.SharedStored.{stored_documents}
use Rattle.stored_documents.proofs.PutTogether.{ArePlaced}
use Rattle.stored_documents.proofs.together.place_all.Given as goal

abbrev pub invariant-loop-document : goal.invariant-loop-document
invariant-loop-document l = record {
  all : l.yielded ++ into_iter_items l.document-iterator ≡ into_iter_items l.initial.document-iterator;
  left : into_iter_len l.document-iterator ≡ length (into_iter_items l.document-iterator);
  so_far : ArePlaced l.yielded (stored_documents l.initial.stored.items) (stored_documents l.stored.items) l.replaced;
  room : vec_len l.stored + length (into_iter_items l.document-iterator) ≤ vec_capacity l.stored;
}
