use Rattle.serving.specs.Transfers.{transferred_bytes}
use Rattle.schemareg.proofs.Written.{more_lost}
use Rattle.schemareg.proofs.output.pass.Goals as goal

pub returns-in-Some : goal.returns-in-Some
returns-in-Some g c =
    more_lost (transferred_bytes (g.O.ByteWriter.writes c.args.stream.now)) c.args.lost.now c.in-Some.lost c.moved.result c.as_bytes.result.now c.args.text.now
    c.in-Some.is c.moved.ensures.transfers c.as_bytes.ensures.value
