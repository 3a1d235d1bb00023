use Rattle.std.proofs.Common.{◌++◌, [], ◌∷◌, Bor, get_or, map, sym, ap, ◌∙◌}
use Rattle.std.proofs.lemmas.List.{map-append}
use Rattle.definitions.specs.Values.{Text}
use Rattle.tenant_documents.specs.HeldBeside.{is_held_beside}
use Rattle.tenant_documents.specs.Registries.{registry_view}
use Rattle.tenant_documents.proofs.HeldUris.{kept_more, left_more}
use Rattle.tenant_documents.proofs.RepeatedTexts.{at_place}
use Rattle.tenant_documents.proofs.registry.Registry.held_uris.Goals as goal
use Rattle.tenant_documents.proofs.registry.Registry.held_uris.Goals.{then-branch+in_ok-push, else-branch}

pub loop-uri-preserved : goal.loop-uri-preserved
loop-uri-preserved c texts set =
    let none : Bor Text = record { ref_ptr = (0, 0); now = [] } in
    let xs = c.args.uris.now in
    let i = c.loop-uri.uri-index in
    let lt = c.loop-uri-test.true in
    let key = get_or xs i none in
    let is = at_place xs i none lt in
    let p = is_held_beside (registry_view c.args.self.now) texts in
    let test = c.in_ok-is_held_beside.ensures.ok texts set in
    elim c.if-branch.branch [
      | then-branch+in_ok-push w ↦
          rw w.held-is
          (ap (map (λ (t : Bor Text). t.now)) w.in_ok-push.ensures.items
          ∙ map-append (λ (t : Bor Text). t.now) c.loop-uri.held.items (key ∷ [])
          ∙ ap (λ us. us ++ key.now ∷ []) (c.loop-uri.invariant texts set)
          ∙ sym (kept_more p xs i key lt is (sym test ∙ w.if-branch.true)))
      | else-branch w ↦
          rw w.held-is
          (c.loop-uri.invariant texts set ∙ sym (left_more p xs i key lt is (sym test ∙ w.if-branch.false)))
    ]
