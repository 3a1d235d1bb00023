use Rattle.std.proofs.Common.{◌≡◌, take, string_bytes, map}
use Rattle.std.specs.List.{list_any}
use Rattle.definitions.specs.Uris.{without_fragment}
use Rattle.definitions.specs.Reach.{holds_resource}
use Rattle.linker.specs.CompoundDocuments.{compound_documents}
use Rattle.linker.specs.SharedDocuments.{shared_documents}
use Rattle.linker.specs.Visits.{Adds, AreCompound}
use Rattle.linker.proofs.visiting.follow.Given as goal

abbrev pub invariant-loop-reference : goal.invariant-loop-reference
invariant-loop-reference g l =
    let all = g.S.Source.documents l.fn.source in
    record {
      same : g.S.Source.documents l.source ≡ all;
      adds : Adds all (λ e. list_any (λ r. holds_resource (without_fragment r) e) (map string_bytes (take l.reference-index l.reference-items)))
          (shared_documents l.fn.reached.items) (shared_documents l.fn.waiting.items) (shared_documents l.reached.items) (shared_documents l.waiting.items);
      known : AreCompound (shared_documents l.reached.items) (compound_documents l.compound);
    }
