use Rattle.std.proofs.Common.{Some, is_some, true≢false, sym, ap, ◌∙◌}
use Rattle.std.specs.List.{slice_get}
use Rattle.definitions.specs.Reach.{holds_resource}
use Rattle.definitions.specs.Scanning.{resource_uris}
use Rattle.schema_scan.specs.CompiledDocuments.{compiled_schemas, compiled_view}
use Rattle.linker.specs.SharedDocuments.{shared_documents}
use Rattle.linker.proofs.Tables.{found_holds, no_holder, root_nowhere}
use Rattle.linker.proofs.linking.holder_of.Goals as goal

pub returns-clause-holder : goal.returns-clause-holder
returns-clause-holder c = sym c.in-Some.ensures ∙ ap (λ d. Some (compiled_view d)) (sym c.in_ok-clone-in-Some.ensures.cases)

pub returns-clause-number : goal.returns-clause-number
returns-clause-number c =
    let uri = c.args.resource.now in
    let same = c.deref.ensures in
    let held = found_holds (shared_documents c.args.documents.now) uri (compiled_view c.in-Some.document.now.value) (sym c.in-Some.ensures) in
    ap (λ d. slice_get (resource_uris (compiled_schemas d)) c.resource_number-number.result) (c.in_ok-clone-in-Some.ensures.cases ∙ sym same)
    ∙ c.resource_number-number.ensures (ap (λ d. holds_resource uri (compiled_view d)) same ∙ held.1)

pub unreachable-requires : goal.unreachable-requires
unreachable-requires c =
    let ds = shared_documents c.args.documents.now in
    true≢false (sym c.requires.asked ∙ ap is_some (root_nowhere ds c.args.resource.now (no_holder ds c.args.resource.now (sym c.in-None.ensures))))
