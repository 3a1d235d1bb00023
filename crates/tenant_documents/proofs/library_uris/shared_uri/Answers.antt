use Rattle.std.proofs.Common.{◌≡◌, Bor, IfOk, Option, map, option_map, ap, subst, sym, ◌∙◌}
use Rattle.definitions.specs.Batches.{repeats}
use Rattle.definitions.specs.Reach.{least}
use Rattle.definitions.specs.Values.{Text}
use Rattle.linker.specs.SharedDocuments.{shared_documents}
use Rattle.tenant_documents.proofs.LibraryDocuments.{taken_together}
use Rattle.tenant_documents.proofs.library_uris.shared_uri.Goals as goal

pub returns : goal.returns
returns c =
    subst (λ (u : Option Text). IfOk c.least_repeat.result (λ t. option_map (λ (s : Bor Text). s.now) t ≡ u))
    (ap (λ us. least (repeats us)) (ap (map (λ (t : Bor Text). t.now)) c.deref.ensures.value ∙ c.in_ok-uris.ensures.uris)
    ∙ sym (taken_together (shared_documents c.args.documents.now) c.requires c.in_ok-uris.ensures.faultless))
    c.least_repeat.ensures
