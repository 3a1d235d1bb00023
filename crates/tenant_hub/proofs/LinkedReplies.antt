-- A reply where documents were linked, and where they weren't.
use Rattle.std.proofs.Common.{◌≡◌, List, [], ◌∷◌, Option, Some, None, option_map, refl, ap}
use Rattle.definitions.specs.Faults.{Fault, unresolved, not_found}
use Rattle.definitions.specs.Reach.{least, missing_references}
use Rattle.definitions.specs.Registries.{Reply, refused, linked_reply, unless_missing}
use Rattle.definitions.specs.Schemas.{Document}
use Rattle.definitions.specs.Values.{Text}
use Rattle.linker.specs.LinkFaults.{link_fault}

none_missing : (ds : List Document) (o : Option Text) (reply : Reply) → option_map unresolved o ≡ None → unless_missing ds o reply ≡ reply
none_missing ds None reply e = refl
none_missing ds (Some r) reply e = cc

one_missing : (ds : List Document) (o : Option Text) (f : Fault) (reply : Reply) → option_map unresolved o ≡ Some f → unless_missing ds o reply ≡ refused f
one_missing ds None f reply e = cc
one_missing ds (Some r) f reply e = let same : unresolved r ≡ f = cc in ap refused same

pub links : (ds : List Document) (reply : Reply) → link_fault ds ≡ None → linked_reply ds reply ≡ reply
unfolding link_fault
links [] reply e = cc
links (d ∷ ds) reply e = none_missing (d ∷ ds) (least (missing_references (d ∷ ds))) reply e

pub links_not : (ds : List Document) (f : Fault) (reply : Reply) → link_fault ds ≡ Some f → linked_reply ds reply ≡ refused f
unfolding link_fault
links_not [] f reply e = let same : not_found ≡ f = cc in ap refused same
links_not (d ∷ ds) f reply e = one_missing (d ∷ ds) (least (missing_references (d ∷ ds))) f reply e
