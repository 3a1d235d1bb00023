use Rattle.stored_hub.specs.Storing.{Finds}
use Rattle.tenant_hub.specs.Hubs.{hub_view}
use Rattle.http_front.proofs.Kept.{hub_kept}
use Rattle.http_front.proofs.stored.serve_stored_connection.Goals as goal

pub returns : goal.returns
returns g c =
    hub_kept (λ h. hub_view h.hub) (λ h. Finds g.D.DocumentStore.recovers h.store (hub_view h.hub)) c.args.hub c.serve_connection.result.0
    (g.R.ByteReader.reads c.args.reader.now) (g.W.ByteWriter.writes c.args.writer.now)
    (g.R.ByteReader.reads c.serve_connection.new.reader) (g.W.ByteWriter.writes c.serve_connection.new.writer) c.serve_connection.result.1
    c.serve_connection.ensures.served c.serve_connection.ensures.bounded c.serve_connection.ensures.found
