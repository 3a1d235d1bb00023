use Rattle.std.proofs.Common.{◌≡◌, true, cond, List, String, Global, map, take, string_bytes, sym, ap, ◌∙◌}
use Rattle.std.proofs.lemmas.List.{take_all}
use Rattle.std.proofs.lemmas.Map.Text.{btree_set_updates_text}
use Rattle.std.specs.BTreeSet.{contains_text}
use Rattle.std.specs.List.{list_any}
use Rattle.definitions.specs.Values.{same_text}
use Rattle.lemmas.proofs.Lists.{map-take_more}
use Rattle.stored_documents.proofs.TextSets.{one_more}
use Rattle.stored_documents.proofs.resource_texts.text_set.Goals as goal

pub loop-uri-preserved : goal.loop-uri-preserved
loop-uri-preserved c t =
    let set = c.loop-uri.set in
    let us = c.args.uris.now in
    let i = c.loop-uri.uri-index in
    let u = c.uri-item.result in
    let own = string_bytes c.in_ok-to_owned.field-0 in
    let item : own ≡ string_bytes u = c.in_ok-to_owned.ensures.ok ∙ c.as_str.ensures.value in
    btree_set_updates_text own set c.insert.new.self true c.in_ok-insert.ensures.updates t
    ∙ ap (λ k. cond (same_text k t) true (contains_text set t)) item
    ∙ one_more t (string_bytes u) (map string_bytes (take i us)) (contains_text set t) (c.loop-uri.invariant t)
    ∙ ap (list_any (same_text t)) (sym (map-take_more string_bytes us i u c.loop-uri-test.true c.uri-item.is))

pub returns : goal.returns
returns c t =
    c.loop-uri.invariant t
    ∙ ap (λ (us : List (String Global)). list_any (same_text t) (map string_bytes us)) (take_all c.loop-uri.uri-index c.args.uris.now c.loop-uri-test.false)
