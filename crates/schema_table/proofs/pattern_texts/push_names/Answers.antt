use Rattle.std.proofs.Common.{◌++◌, [], ◌∷◌, List, map, Bor, sym, ap, ◌∙◌, append-nil}
use Rattle.definitions.specs.Values.{Text, Value}
use Rattle.json_doc.specs.Docs.{members_value}
use Rattle.json_doc.specs.Members.{members_left}
use Rattle.schema_table.proofs.Lists.{map-push, grown}
use Rattle.schema_table.proofs.pattern_texts.push_names.Goals as goal

abbrev texts : List (Bor Text) → List Text
texts = map (λ t. t.now)

abbrev names : List (Text × Value) → List Text
names = map (λ m. m.0)

pub loop-name-init : goal.loop-name-init
loop-name-init c =
    ap (λ ms. texts c.args.texts.now.items ++ names ms) (sym (ap members_left c.into_iter-name-iterator.ensures.into_iter_gives ∙ c.iter-name-items.ensures.all))

pub loop-name-preserved : goal.loop-name-preserved
loop-name-preserved c =
    grown (texts c.args.texts.now.items ++ names (members_value c.args.members.now)) (texts c.loop-name.texts.items) (texts c.push.new.self.items) (c.in-Some.name.now ∷ []) (names (members_left c.next.new.self))
    (c.loop-name.invariant ∙ ap (λ ms. texts c.loop-name.texts.items ++ names ms) c.in-Some.ensures.steps)
    (map-push (λ (t : Bor Text). t.now) c.loop-name.texts.items c.push.new.self.items c.in-Some.name c.in_ok-push.ensures.items)

pub returns : goal.returns
returns c =
    sym (c.loop-name.invariant ∙ ap (λ ms. texts c.loop-name.texts.items ++ names ms) c.in-None.ensures.steps.0 ∙ append-nil (texts c.loop-name.texts.items))
