use Rattle.stored_hub.proofs.EmptyServers.{new_servers_empty}
use Rattle.stored_hub.proofs.laws.new_servers_have_no_documents.Goals as goal

pub returns : goal.returns
returns c = new_servers_empty
