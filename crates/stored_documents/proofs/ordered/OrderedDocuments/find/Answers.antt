use Rattle.std.proofs.Common.{sym, subst, arith}
use Rattle.linker.proofs.Positions.{absent_unfound}
use Rattle.linker.specs.Positions.{StandsAt, IsGap}
use Rattle.stored_documents.specs.OrderedDocuments.{ordered_documents}
use Rattle.stored_documents.specs.SharedStored.{stored_documents}
use Rattle.stored_documents.proofs.StandingDocuments.{stored_as_long, stored_standing}
use Rattle.stored_documents.proofs.ordered.OrderedDocuments.find.Goals as goal

pub index-requires : goal.index-requires
index-requires c = omega (arith, c.in-Ok.ensures.found.inside, stored_as_long c.deref.result.now, c.deref.ensures.len)

pub returns-in-Ok : goal.returns-in-Ok
unfolding ordered_documents
returns-in-Ok c =
    sym (stored_standing c.args.self.now.stored.items c.args.canonical.now c.in-Ok.at c.index.result.now c.args.self.now.ascend
    (subst (λ ds. StandsAt (stored_documents ds) c.args.canonical.now c.in-Ok.at) c.deref.ensures.value c.in-Ok.ensures.found) c.index.ensures)

pub returns-in-Err : goal.returns-in-Err
unfolding ordered_documents
returns-in-Err c =
    sym (absent_unfound (stored_documents c.args.self.now.stored.items) c.args.canonical.now c.in-Err.field-0
    (subst (λ ds. IsGap (stored_documents ds) c.args.canonical.now c.in-Err.field-0) c.deref.ensures.value c.in-Err.ensures.absent))
