use Rattle.std.proofs.Common.{find, refl, ap}
use Rattle.std.specs.List.Sorted.{IsStrictlySortedBy}
use Rattle.linker.specs.SharedDocuments.{shared_documents}
use Rattle.linker.specs.Sources.{embeds}
use Rattle.linker.proofs.list_source.ListSource.new.Goals as goal

pub invariant_of-result : goal.invariant_of-result
unfolding IsStrictlySortedBy shared_documents
invariant_of-result c = rw c.new.ensures.items (record { ascend = tt; distinct = refl; known = λ uri. ap (find (embeds uri)) c.new-2.ensures; faultless = refl })

pub returns : goal.returns
unfolding shared_documents
returns c = rw c.new.ensures.items refl
