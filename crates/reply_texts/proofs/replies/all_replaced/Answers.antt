use Rattle.std.proofs.Common.{◌≡◌, List, refl, sym, ap, ◌∙◌, rules, tests, map}
use Rattle.std.specs.Prelude.{Bool}
use Rattle.std.specs.List.{list_all}
use Rattle.std.proofs.lemmas.Iterator.{YieldsList-from_slice}
use Rattle.std.proofs.lemmas.Iterator.Search.{all_from_yields_List}
use Rattle.std.proofs.lemmas.List.Folds.{list_all-map}
use Rattle.definitions.specs.Values.{Text}
use Rattle.requests.specs.Views.{stored_entry_view}
use Rattle.requests.specs.declared.StoredEntry.{StoredEntry}
use Rattle.reply_texts.proofs.replies.all_replaced.Goals as goal

pub returns : goal.returns
returns c =
    let items : List StoredEntry = c.iter.result.rest.now in
    let each : c.all.result ≡ list_all (λ (e : StoredEntry). e.replaced) items =
    all_from_yields_List (λ (e : StoredEntry). e.replaced) _ _ c.all.result c.all.ensures.ran (YieldsList-from_slice items refl) (λ x b q k. search (rules, tests)) in
    each
    ∙ sym (list_all-map (λ (d : Text × Bool). d.1) stored_entry_view items)
    ∙ ap (λ es. list_all (λ (d : Text × Bool). d.1) (map stored_entry_view es)) c.iter.ensures.rest
