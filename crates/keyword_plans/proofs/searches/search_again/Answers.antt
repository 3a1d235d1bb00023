use Rattle.std.proofs.Common.{◌≡◌, Some, ap, sym, subst, ◌∙◌}
use Rattle.std.specs.BTreeMap.{get}
use Rattle.std.specs.Option.{IfSome, is_some, option_copied_mut}
use Rattle.std.specs.Result.{IfOk}
use Rattle.definitions.specs.Patterns.{has_match}
use Rattle.linker.specs.declared.linked.Linked.{Linked}
use Rattle.keyword_plans.specs.Held.{AreHeld, IsHeld, number_of, parts_cmp}
use Rattle.keyword_plans.proofs.HeldPatterns.{held_with}
use Rattle.keyword_plans.proofs.searches.search_again.Goals as goal

there : (c : goal.After-held-in-Some-1) → Some c.in-Some.pattern.now ≡ get parts_cmp c.args.held.now c.args.parts
there c = sym (ap option_copied_mut c.in-Some.is) ∙ c.get_mut.ensures.value

right : (c : goal.After-held-in-Some-1) (linked : Linked) → AreHeld linked c.args.held.now → IsHeld linked (number_of c.args.parts) c.in-Some.pattern.now
right c linked held = subst (λ o. IfSome o (IsHeld linked (number_of c.args.parts))) (sym (there c)) (held c.args.parts)

pub returns-in-Some-clause-ok : goal.returns-in-Some-clause-ok
returns-in-Some-clause-ok c linked pattern held is =
    subst (λ t. IfOk c.search.result (λ found. found ≡ has_match t c.args.text.now)) (right c linked held pattern is) c.search.ensures.ok

pub returns-in-Some-clause-held : goal.returns-in-Some-clause-held
returns-in-Some-clause-held c linked held =
    let written = (c.get_mut.follows.holds c.search.new.pattern).3 (sym (ap is_some (there c))) in
    held_with linked c.args.held.now (c.get_mut.follows.lender c.search.new.pattern) c.args.parts (Some c.search.new.pattern) held written
    (λ text is. c.search.ensures.same ∙ right c linked held text is)
