use Rattle.std.proofs.Common.{◌++◌, take, sym, ap, ◌∙◌}
use Rattle.network.specs.Transcripts.{transfers_of}
use Rattle.serving.specs.Transfers.{transferred_bytes}
use Rattle.serving.proofs.Written.{took_some, took_nothing}
use Rattle.serving.proofs.memory.MemoryWriterByteWriter.write.Goals as goal

pub invariant_of-self : goal.invariant_of-self
invariant_of-self c = record {
  told = c.in-Ok.ensures.ok ∙ ap (λ t. t ++ take c.in-Ok.count c.args.bytes.now) c.args.self.now.told
      ∙ sym (ap transferred_bytes c.moved-self.ensures.transfers ∙ took_some (transfers_of c.args.self.now.transcript) (take c.in-Ok.count c.args.bytes.now));
}

pub invariant_of-self-in-Err : goal.invariant_of-self-in-Err
invariant_of-self-in-Err c = record {
  told = c.in-Err.ensures.err ∙ c.args.self.now.told ∙ sym (ap transferred_bytes c.failed-self.ensures.transfers ∙ took_nothing (transfers_of c.args.self.now.transcript));
}
