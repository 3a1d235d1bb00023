use Rattle.std.proofs.Common.{length, sym, ap, ◌∙◌}
use Rattle.linker.proofs.StandingSchemas.{alone, alone_there}
use Rattle.linker.proofs.linked.Linked.only_number.Goals as goal

pub returns-then-as_slice-eq1-clause-stands : goal.returns-then-as_slice-eq1-clause-stands
returns-then-as_slice-eq1-clause-stands c = λ s inside.
    alone c.args.self.now s (ap length (sym c.as_slice.ensures.value) ∙ c.if-as_slice-eq1.true) inside

pub returns-then-as_slice-eq1-clause-there : goal.returns-then-as_slice-eq1-clause-there
returns-then-as_slice-eq1-clause-there c =
    alone_there c.args.self.now (ap length (sym c.as_slice.ensures.value) ∙ c.if-as_slice-eq1.true)
