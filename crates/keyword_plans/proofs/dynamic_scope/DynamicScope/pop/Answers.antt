use Rattle.std.proofs.Common.{◌≡◌, ◌++◌, ◌∷◌, [], ℕ, Bor, List, Option, Some, None, true, is_some, length, map, take, drop, sym, ap, ◌∙◌, subst}
use Rattle.std.proofs.lemmas.List.{length-map, map_push, take_at}
use Rattle.std.specs.List.{All}
use Rattle.std.specs.Option.{option_to_list}
use Rattle.definitions.specs.Values.{Text}
use Rattle.linker.specs.declared.linked.Linked.{Linked}
use Rattle.keyword_plans.specs.Searched.{IsSearched}
use Rattle.keyword_plans.specs.declared.dynamic_scope.SearchedAnchor.{SearchedAnchor}
use Rattle.keyword_plans.proofs.dynamic_scope.DynamicScope.pop.Goals as goal

abbrev texts : List (Bor Text) → List Text
texts uris = map (λ u. u.now) uris

-- what is cut is right for the resources that are left
popped_all : (l : Linked) (old new : List (Bor Text)) (o : Option (Bor Text)) (before after : List SearchedAnchor) (left : ℕ) → is_some o ≡ true → old ≡ new ++ option_to_list o
    → left ≡ length new → All (IsSearched l (texts old)) before
    → ((d : Linked) (older : List Text) (uri : Text) → left ≡ length older → All (IsSearched d (older ++ uri ∷ [])) before → All (IsSearched d older) after)
    → All (IsSearched l (texts new)) after
popped_all l old new None before after left some e size all cut = absurd (cc)
popped_all l old new (Some u) before after left some e size all cut =
    cut l (texts new) u.now (size ∙ sym (length-map new (λ (v : Bor Text). v.now))) (subst (λ us. All (IsSearched l us) before) (ap texts e ∙ map_push (λ (v : Bor Text). v.now) new u) all)

pub invariant_of-self-clause-right : goal.invariant_of-self-clause-right
invariant_of-self-clause-right c =
    let before = c.args.self.now in
    let l = before.references.linked.now in
    let rest = drop (length c.cut.new.searched) before.searched.items in
    let whole : take before.searched.len (c.cut.new.searched ++ rest) ≡ c.cut.new.searched = take_at c.cut.new.searched rest before.searched.len (c.cut.auto.searched ∙ ap length c.as_mut_slice.ensures.value ∙ sym before.searched.ok.0) in
    subst (λ ss. All (IsSearched l (texts c.pop.new.self.items)) ss) (sym whole)
    (popped_all l before.uris.items c.pop.new.self.items c.pop.result before.searched.items c.cut.new.searched c.len.result (sym c.is_some.ensures ∙ c.if-is_some.true) c.pop.ensures.items (c.len.ensures ∙ c.pop.new.self.ok.0) before.right
    (λ d older uri e all. c.cut.ensures d older uri e (subst (λ ss. All (IsSearched d (older ++ uri ∷ [])) ss) (sym c.as_mut_slice.ensures.value) all)))
