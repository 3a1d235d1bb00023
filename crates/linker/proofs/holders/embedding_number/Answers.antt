use Rattle.std.proofs.Common.{List, rules, tests, refl, sym, ap, ◌∙◌}
use Rattle.std.proofs.lemmas.Iterator.{YieldsList-from_slice}
use Rattle.std.proofs.lemmas.Iterator.Adapters.{position_from-zero}
use Rattle.std.proofs.lemmas.Iterator.Search.{position_from_yields_List}
use Rattle.std.specs.List.{position_from}
use Rattle.std.specs.declared.rc.Rc.{Rc}
use Rattle.std.specs.Global.{Global}
use Rattle.schema_scan.specs.CompiledDocuments.{compiled_view}
use Rattle.schema_scan.specs.declared.compiled.Compiled.{Compiled}
use Rattle.linker.specs.SharedDocuments.{shared_documents}
use Rattle.linker.specs.Sources.{embeds}
use Rattle.linker.proofs.Shared.{position_from-map}
use Rattle.linker.proofs.holders.embedding_number.Goals as goal

pub returns : goal.returns
unfolding shared_documents
returns c =
    let items : List (Rc Compiled Global) = c.iter.result.rest.now in
    position_from_yields_List (λ (d : Rc Compiled Global). embeds c.args.uri.now (compiled_view d.value)) _ _ c.position.result c.position.ensures.ran (YieldsList-from_slice items refl) (λ x b q k. search (rules, tests))
    ∙ position_from-zero (λ (d : Rc Compiled Global). embeds c.args.uri.now (compiled_view d.value)) items
    ∙ sym (position_from-map (embeds c.args.uri.now) (λ (d : Rc Compiled Global). compiled_view d.value) 0 items)
    ∙ ap (λ ds. position_from (embeds c.args.uri.now) 0 (shared_documents ds)) c.iter.ensures.rest
