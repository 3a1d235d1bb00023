use Rattle.std.proofs.Common.{◌≡◌, ◌∙◌, [], ◌∷◌, ◌++◌, map, true, false, Option, Some, None, Bor, is_some, option_map, refl, ap, subst}
use Rattle.std.proofs.lemmas.List.{map-append}
use Rattle.definitions.specs.Values.{Text, Value}
use Rattle.definitions.specs.Applied.{Application, named, at_part}
use Rattle.json_doc.specs.Docs.{value}
use Rattle.json_doc.specs.Members.{HasNamesInOrder}
use Rattle.json_doc.specs.NamedMembers.{named_view, named_left}
use Rattle.json_doc.specs.declared.doc.Doc.{Doc}
use Rattle.json_doc.proofs.Nestings.{in_order_rest}
use Rattle.keyword_plans.specs.Applications.{planned_unnamed, at_unnamed}
use Rattle.applicators.specs.Plans.{planned_view}
use Rattle.applicators.proofs.Growing.{grown}
use Rattle.applicators.proofs.Merging.{first_takes}
use Rattle.applicators.proofs.Unevaluated.{skipped}
use Rattle.keyword_plans.proofs.planning.others.plan_unnamed.Goals as goal

-- at a member that takes this schema, or none
module _ (k : Text) (a : Application) (v : Value) (m : Text × Value) where
  where_none : (o : Option (Bor Doc)) → is_some o ≡ false → at_unnamed a k v m (option_map (λ d. value d.now) o) ≡ at_part a (k ∷ []) v (named m.0) m.1 ∷ []
  where_none None none = refl
  where_none (Some d) none = absurd (cc)

  where_some : (o : Option (Bor Doc)) → is_some o ≡ true → at_unnamed a k v m (option_map (λ d. value d.now) o) ≡ []
  where_some None some = absurd (cc)
  where_some (Some d) some = refl

pub loop-name-preserved-in-Continue-1 : goal.loop-name-preserved-in-Continue-1
loop-name-preserved-in-Continue-1 c =
    let v = value c.args.schema.now in
    let m = named_view (c.in-Some.name, c.in-Some.member) in
    let ms = named_left c.next.new.self in
    let before = named_left c.loop-name.other_schemas in
    let after = named_left c.take_named.new.self in
    let ordered = subst HasNamesInOrder c.in-Some.ensures.steps c.loop-name.invariant.members in
    let taken = c.take_named.ensures c.loop-name.invariant.schemas in
    record {
      schemas = taken.ordered;
      members = in_order_rest m ms ordered;
      planned = λ a k.
          grown (map (planned_view k a) c.loop-name.planned.items) _ (at_part a (k ∷ []) v (named m.0) m.1 ∷ []) _ _ _
          (ap (map (planned_view k a)) c.in_ok-push.ensures.items ∙ map-append (planned_view k a) c.loop-name.planned.items _)
          (ap (planned_unnamed k a v before) c.in-Some.ensures.steps ∙ first_takes (at_unnamed a k v) m ms before after _ taken ordered
          ∙ ap (λ here. here ++ planned_unnamed k a v after ms) (where_none k a v m c.take_named.result c.if-is_none.ensures))
          (c.loop-name.invariant.planned a k);
    }

pub loop-name-preserved : goal.loop-name-preserved
loop-name-preserved c =
    let v = value c.args.schema.now in
    let m = named_view (c.in-Some.name, c.in-Some.member) in
    let ms = named_left c.next.new.self in
    let before = named_left c.loop-name.other_schemas in
    let after = named_left c.take_named.new.self in
    let ordered = subst HasNamesInOrder c.in-Some.ensures.steps c.loop-name.invariant.members in
    let taken = c.take_named.ensures c.loop-name.invariant.schemas in
    record {
      schemas = taken.ordered;
      members = in_order_rest m ms ordered;
      planned = λ a k.
          skipped (map (planned_view k a) c.loop-name.planned.items) _ _ _
          (ap (planned_unnamed k a v before) c.in-Some.ensures.steps ∙ first_takes (at_unnamed a k v) m ms before after _ taken ordered
          ∙ ap (λ here. here ++ planned_unnamed k a v after ms) (where_some k a v m c.take_named.result c.if-is_none.ensures))
          (c.loop-name.invariant.planned a k);
    }
