use Rattle.std.proofs.Common.{length, take, map, min, ap, ap₂, sym, ◌∙◌}
use Rattle.std.proofs.lemmas.List.{take-map, take_min}
use Rattle.std.specs.Global.{Global}
use Rattle.std.specs.List.{position_from}
use Rattle.std.specs.declared.rc.Rc.{Rc}
use Rattle.schema_scan.specs.CompiledDocuments.{compiled_view}
use Rattle.schema_scan.specs.declared.compiled.Compiled.{Compiled}
use Rattle.linker.specs.CompoundDocuments.{compound_documents}
use Rattle.linker.specs.SharedDocuments.{shared_documents}
use Rattle.linker.specs.Sources.{embeds}
use Rattle.linker.proofs.compound_documents.CompoundDocuments.asked_number.Goals as goal

pub returns : goal.returns
unfolding compound_documents shared_documents
returns c =
    let items = c.args.self.now.documents.items in
    let view = λ (d : Rc Compiled Global). compiled_view d.value in
    c.embedding_number.ensures
    ∙ ap (position_from (embeds c.args.uri.now) 0) (ap₂ (λ n ds. map view (take n ds)) (c.min.ensures ∙ ap (min 4) (c.len.ensures ∙ sym c.deref.ensures.len ∙ ap length c.deref.ensures.value)) c.deref.ensures.value
    ∙ ap (map view) (take_min 4 items) ∙ sym (take-map view 4 items))
