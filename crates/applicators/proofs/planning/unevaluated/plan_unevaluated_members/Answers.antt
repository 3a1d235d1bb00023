use Rattle.std.proofs.Common.{◌≡◌, ◌∙◌, sym, ap, map, true, false, Bool, List}
use Rattle.std.proofs.lemmas.List.{map-append}
use Rattle.definitions.specs.Values.{Text}
use Rattle.definitions.specs.Applied.{has}
use Rattle.json_doc.specs.Docs.{value}
use Rattle.json_doc.specs.NamedMembers.{name_text, named_left}
use Rattle.json_doc.specs.declared.named_members.Name.{Name}
use Rattle.applicators.specs.Applications.{planned_unevaluated_properties}
use Rattle.applicators.specs.Plans.{planned_view}
use Rattle.applicators.proofs.Growing.{grown}
use Rattle.applicators.proofs.Unevaluated.{skipped, member-new, member-old}
use Rattle.applicators.proofs.planning.unevaluated.plan_unevaluated_members.Goals as goal

asked : (q : Text) (held given : List Name) (found b : Bool) → held ≡ given → found ≡ has q (map name_text held) → found ≡ b
    → has q (map name_text given) ≡ b
asked q held given found b same answer known = ap (λ (ns : List Name). has q (map name_text ns)) (sym same) ∙ sym answer ∙ known

pub loop-name-preserved-in_ok-push : goal.loop-name-preserved-in_ok-push
loop-name-preserved-in_ok-push c = record {
  names = c.has.ensures.names ∙ c.loop-name.invariant.names;
  planned = λ a k.
      let v = value c.args.schema.now in
      let ns : List Text = map name_text c.args.names.now in
      let rest = named_left c.next.new.self in
      let free : has (name_text c.in-Some.name) ns ≡ false = asked (name_text c.in-Some.name) _ c.args.names.now _ false c.loop-name.invariant.names c.in_ok-has.ensures.has c.if-not-branch.true in
      grown (map (planned_view k a) c.loop-name.planned.items) _ _ _ (planned_unevaluated_properties k a v ns rest) _
      (ap (map (planned_view k a)) c.in_ok-push.ensures.items ∙ map-append (planned_view k a) c.loop-name.planned.items _)
      (ap (planned_unevaluated_properties k a v ns) c.in-Some.ensures.steps ∙ member-new k a v ns (name_text c.in-Some.name) (value c.in-Some.member.now) rest free)
      (c.loop-name.invariant.planned a k);
}

pub loop-name-preserved : goal.loop-name-preserved
loop-name-preserved c = record {
  names = c.has.ensures.names ∙ c.loop-name.invariant.names;
  planned = λ a k.
      let v = value c.args.schema.now in
      let ns : List Text = map name_text c.args.names.now in
      let rest = named_left c.next.new.self in
      let taken : has (name_text c.in-Some.name) ns ≡ true = asked (name_text c.in-Some.name) _ c.args.names.now _ true c.loop-name.invariant.names c.in_ok-has.ensures.has c.if-not-branch.false in
      skipped (map (planned_view k a) c.loop-name.planned.items) _ (planned_unevaluated_properties k a v ns rest) _
      (ap (planned_unevaluated_properties k a v ns) c.in-Some.ensures.steps ∙ member-old k a v ns (name_text c.in-Some.name) (value c.in-Some.member.now) rest taken)
      (c.loop-name.invariant.planned a k);
}
