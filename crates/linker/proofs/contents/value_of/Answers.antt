use Rattle.std.proofs.Common.{Some, option_map, ap, sym, ◌∙◌, subst, arith}
use Rattle.schema_scan.specs.CompiledDocuments.{compiled_value}
use Rattle.linker.specs.LinkedDocuments.{linked_documents}
use Rattle.linker.specs.Positions.{StandsAt, IsGap}
use Rattle.linker.specs.SharedDocuments.{shared_documents}
use Rattle.linker.proofs.Positions.{absent_unfound, shared_as_long, shared_standing}
use Rattle.linker.proofs.contents.value_of.Goals as goal

pub index-requires : goal.index-requires
index-requires c = omega (arith, c.in-Ok.ensures.found.inside, shared_as_long c.deref.result.now, c.deref.ensures.len)

pub returns-in-Ok : goal.returns-in-Ok
unfolding linked_documents
returns-in-Ok c =
    ap Some (c.document.ensures.value ∙ ap compiled_value c.deref-in-Ok.ensures)
    ∙ sym (ap (option_map (λ d. d.value)) (shared_standing c.args.linked.now.documents.items c.args.canonical.now c.in-Ok.at c.index.result.now c.args.linked.now.ascend
    (subst (λ ds. StandsAt (shared_documents ds) c.args.canonical.now c.in-Ok.at) c.deref.ensures.value c.in-Ok.ensures.found) c.index.ensures))

pub returns-in-Err : goal.returns-in-Err
unfolding linked_documents
returns-in-Err c =
    sym (ap (option_map (λ d. d.value)) (absent_unfound (shared_documents c.args.linked.now.documents.items) c.args.canonical.now c.in-Err.field-0
    (subst (λ ds. IsGap (shared_documents ds) c.args.canonical.now c.in-Err.field-0) c.deref.ensures.value c.in-Err.ensures.absent)))
