use Rattle.std.proofs.Common.{◌≡◌, None, true, false, Option, Some, is_some, option_map, refl, sym, ap, ◌∙◌}
use Rattle.std.proofs.lemmas.Map.Text.{btree_map_updates_text}
use Rattle.stored_documents.specs.DocumentLists.{documents_in}
use Rattle.stored_documents.specs.OrderedDocuments.{ordered_documents}
use Rattle.stored_documents.proofs.ClaimedDocuments.{released}
use Rattle.stored_documents.proofs.FreshClaims.{one_held, one_released}
use Rattle.stored_documents.proofs.documents.Documents.release.Goals as goal

none_shown : {X Y : Type 0} (f : X → Y) (o : Option X) → is_some o ≡ false → option_map f o ≡ None
none_shown f None e = refl
none_shown f (Some x) e = cc

pub invariant_of-self : goal.invariant_of-self
unfolding documents_in
invariant_of-self c = record {
  claimed = released c.args.self.now.claims c.remove.new.self (ordered_documents c.args.self.now.ordered) c.args.uri.now c.args.self.now.claimed
      (sym c.holder.ensures ∙ none_shown _ c.holder.result c.if-is_none.ensures)
      (btree_map_updates_text c.args.uri.now c.args.self.now.claims c.remove.new.self None c.remove.ensures.updates);
}

some_shown : {X Y : Type 0} (f : X → Y) (o : Option X) → is_some o ≡ true → is_some (option_map f o) ≡ true
some_shown f None e = e
some_shown f (Some x) e = refl

pub returns-then-is_none-clause-released : goal.returns-then-is_none-clause-released
unfolding documents_in
returns-then-is_none-clause-released c =
    one_released c.args.self.now _ c.args.uri.now refl (btree_map_updates_text c.args.uri.now c.args.self.now.claims c.remove.new.self None c.remove.ensures.updates)

pub returns-else-is_none-clause-released : goal.returns-else-is_none-clause-released
returns-else-is_none-clause-released c = one_held c.args.self.now c.args.uri.now (sym (ap is_some c.holder.ensures) ∙ some_shown _ c.holder.result c.if-is_none.ensures)
