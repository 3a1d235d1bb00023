use Rattle.std.proofs.Common.{◌∙◌, None, ap}
use Rattle.schema_scan.specs.CompiledDocuments.{compiled_view}
use Rattle.file_forms.proofs.Rooted.{is_linked_from, is_unlinked_from, no_room_unlinked}
use Rattle.file_forms.proofs.roots.Root.link.Goals as goal

pub returns-in_default-clause-err : goal.returns-in_default-clause-err
returns-in_default-clause-err c = no_room_unlinked c.args.self.now c.args.path.now c.no_room.result c.no_room.ensures

pub returns-in-Ok-link-clause-ok : goal.returns-in-Ok-link-clause-ok
returns-in-Ok-link-clause-ok c =
    is_linked_from c.args.self.now c.in-Ok-link.linked c.as_str.result.now c.canonical.result.now c.in-Ok-link.ensures.uri c.in-Ok-link.ensures.documents c.link.ensures.distinct
    (c.as_str.ensures.value ∙ c.in-Ok.ensures.ok) (c.canonical.ensures ∙ ap (λ d. (compiled_view d).canonical) c.deref.ensures)

pub returns-clause-err : goal.returns-clause-err
returns-clause-err c =
    is_unlinked_from c.args.self.now c.args.path.now c.in-Err.fault c.with_origin.result c.as_str.result.now c.canonical.result.now
    (c.with_origin.ensures c.args.path.now None c.in-Err.fault c.refused.ensures) c.in-Err.ensures.err
    (c.as_str.ensures.value ∙ c.in-Ok.ensures.ok) (c.canonical.ensures ∙ ap (λ d. (compiled_view d).canonical) c.deref.ensures)
