use Rattle.std.proofs.Common.{ap, sym, ◌∙◌, is_some, Bor}
use Rattle.std.specs.Global.{Global}
use Rattle.std.specs.declared.rc.Rc.{Rc}
use Rattle.schema_scan.specs.CompiledDocuments.{compiled_view}
use Rattle.schema_scan.specs.declared.compiled.Compiled.{Compiled}
use Rattle.linker.specs.CompoundDocuments.{compound_documents}
use Rattle.linker.specs.Sources.{embeds}
use Rattle.lemmas.proofs.Options.{is_some-map}
use Rattle.linker.proofs.Adding.{is_some-find}
use Rattle.linker.proofs.Compound.{standing_held, compound_held}
use Rattle.linker.proofs.holders.is_reached.Goals as goal

pub returns-in-Ok : goal.returns-in-Ok
returns-in-Ok c = sym (standing_held c.args.documents.now c.args.uri.now c.in-Ok.field-0 c.in-Ok.ensures.found)

pub returns-in-Err : goal.returns-in-Err
returns-in-Err c =
    c.is_some.ensures
    ∙ sym (is_some-map (λ (d : Bor (Rc Compiled Global)). compiled_view d.now.value) c.holder.result)
    ∙ ap is_some c.holder.ensures
    ∙ is_some-find (embeds c.args.uri.now) (compound_documents c.args.compound.now)
    ∙ compound_held c.args.documents.now (compound_documents c.args.compound.now) c.args.uri.now c.in-Err.field-0 c.in-Err.ensures.absent c.requires.known
