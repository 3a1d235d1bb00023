use Rattle.std.proofs.Common.{◌≡◌, ◌++◌, List, Some, String, cond, is_some, is_none, filter, map, take, string_bytes, option_map, ap, sym, ◌∙◌}
use Rattle.std.proofs.lemmas.List.{take_all}
use Rattle.std.specs.Global.{Global}
use Rattle.definitions.specs.Reach.{least, lesser, references_in}
use Rattle.definitions.specs.Schemas.{table_of}
use Rattle.definitions.specs.Targets.{target}
use Rattle.lemmas.proofs.Lists.{map-take_more}
use Rattle.schema_scan.specs.CompiledDocuments.{compiled_view}
use Rattle.linker.specs.Missing.{missing_in}
use Rattle.linker.specs.SharedDocuments.{shared_documents}
use Rattle.linker.proofs.Judged.{judged_more}
use Rattle.linker.proofs.judging.least_missing_of.Goals as goal

pub loop-reference-preserved : goal.loop-reference-preserved
loop-reference-preserved c = λ before e.
    let table = table_of (shared_documents c.args.documents.now) in
    let items : List (String Global) = c.references-reference-items.result.now in
    let s = string_bytes c.reference-item.result in
    let so_far = option_map (λ t. t.now) c.loop-reference.least in
    c.in_ok-least.ensures
    ∙ ap (λ r. cond (is_some (target table r)) so_far (Some (lesser r so_far))) c.deref.ensures
    ∙ ap (λ l. cond (is_some (target table s)) l (Some (lesser s l))) (c.loop-reference.invariant before e)
    ∙ sym (judged_more (target table) before (map string_bytes (take c.loop-reference.reference-index items)) s)
    ∙ sym (ap (λ rs. least (before ++ filter (λ r. is_none (target table r)) rs)) (map-take_more string_bytes items c.loop-reference.reference-index c.reference-item.result c.loop-reference-test.true c.reference-item.is))

pub returns : goal.returns
unfolding missing_in
returns c = λ before e.
    let table = table_of (shared_documents c.args.documents.now) in
    let items : List (String Global) = c.references-reference-items.result.now in
    let whole : map string_bytes (take c.loop-reference.reference-index items) ≡ references_in (compiled_view c.args.document.now) =
    ap (map string_bytes) (take_all c.loop-reference.reference-index items c.loop-reference-test.false) ∙ c.references-reference-items.ensures in
    c.loop-reference.invariant before e
    ∙ ap (λ rs. least (before ++ filter (λ r. is_none (target table r)) rs)) whole
