use Rattle.std.proofs.Common.{◌≡◌, ◌+◌, ◌-◌, length}
use Rattle.linker.specs.CompoundDocuments.{compound_documents}
use Rattle.linker.specs.SharedDocuments.{shared_documents}
use Rattle.linker.specs.Visits.{AreCompound}
use Rattle.linker.proofs.Visits.{IsVisit}
use Rattle.linker.proofs.visiting.reached_documents.Given as goal

abbrev pub invariant-loop-document : goal.invariant-loop-document
invariant-loop-document g l =
    let all = g.S.Source.documents l.fn.source in
    record {
      same : g.S.Source.documents l.source ≡ all;
      visit : IsVisit all l.resource (shared_documents l.reached.items) (shared_documents l.waiting.items);
      known : AreCompound (shared_documents l.reached.items) (compound_documents l.compound);
    }

abbrev pub decreases-loop-document : goal.decreases-loop-document
decreases-loop-document g l = length (g.S.Source.documents l.fn.source) + length l.waiting.items - length l.reached.items
