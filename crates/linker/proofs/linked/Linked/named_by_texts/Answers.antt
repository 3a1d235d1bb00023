use Rattle.definitions.specs.Resolution.{target_uri}
use Rattle.linker.specs.LinkedDocuments.{linked_schemas}
use Rattle.linker.proofs.NamedSchemas.{unread}
use Rattle.linker.proofs.linked.Linked.named_by_texts.Goals as goal

pub returns-in-None : goal.returns-in-None
returns-in-None c = unread (linked_schemas c.args.self.now) (target_uri c.args.resource.now c.args.reference.now) (rw c.in-None.is at c.in_ok-named.ensures)

pub returns-in-Some-2 : goal.returns-in-Some-2
returns-in-Some-2 c = c.named_by-in-Some-2.ensures _ (rw c.in-Some-2.is at c.in_ok-named.ensures)
