use Rattle.std.proofs.Common.{Some, find, ap, ◌∙◌}
use Rattle.definitions.specs.Reach.{holds_resource}
use Rattle.schema_scan.specs.CompiledDocuments.{compiled_view}
use Rattle.schema_scan.specs.declared.compiled.Compiled.{Compiled}
use Rattle.linker.specs.LinkedDocuments.{linked_documents}
use Rattle.linker.specs.SharedDocuments.{shared_documents}
use Rattle.linker.proofs.linked.Linked.holder.Goals as goal

pub returns-in-Some : goal.returns-in-Some
unfolding linked_documents
returns-in-Some c =
    ap (λ (d : Compiled). Some (compiled_view d)) c.deref.ensures ∙ c.in-Some.ensures
    ∙ ap (λ ds. find (holds_resource c.args.uri.now) (shared_documents ds)) c.as_slice.ensures.value

pub returns-in-None : goal.returns-in-None
unfolding linked_documents
returns-in-None c = c.in-None.ensures ∙ ap (λ ds. find (holds_resource c.args.uri.now) (shared_documents ds)) c.as_slice.ensures.value
