use Rattle.std.proofs.Common.{◌≡◌, [], Bor, get_or, is_some, option_map, subst, sym, ap, ◌∙◌, arith}
use Rattle.definitions.specs.Targets.{schema_with_dynamic_anchor}
use Rattle.linker.specs.LinkedDocuments.{linked_schemas}
use Rattle.linker.specs.declared.linked.Linked.{Linked}
use Rattle.lemmas.proofs.Options.{is_some-map}
use Rattle.keyword_plans.specs.Followed.{target_view}
use Rattle.keyword_plans.specs.FollowedIn.{followed_in}
use Rattle.keyword_plans.specs.LinkedResources.{HasAnchor, HasResource}
use Rattle.keyword_plans.proofs.SearchedScopes.{found_searched, none_searched, passed_one_more}
use Rattle.keyword_plans.proofs.dynamic_scope.search.Goals as goal

pub returns-then-is_some-clause-right : goal.returns-then-is_some-clause-right
returns-then-is_some-clause-right c =
    let l = (followed_in c.args.references.now).now in
    let name = c.args.begun.name.now in
    let uri = (get_or c.args.uris.now c.loop-passed.passed (record { ref_ptr = (0, 0); now = [] })).now in
    let right =
    subst (λ (d : Bor Linked). HasResource d.now uri → HasAnchor d.now name → option_map target_view c.in_ok-found.found ≡ schema_with_dynamic_anchor (linked_schemas d.now) uri name)
    c.loop-passed.invariant.linked c.in_ok-found.ensures.ok in
    record {
      anchor = c.requires.anchor;
      number = c.requires.number;
      searched = found_searched l name c.args.uris.now c.loop-passed.passed (option_map target_view c.in_ok-found.found) c.loop-passed-test.true c.loop-passed.invariant.before (λ known. right known c.requires.anchor);
    }

pub loop-passed-preserved : goal.loop-passed-preserved
loop-passed-preserved c =
    let l = (followed_in c.args.references.now).now in
    let name = c.args.begun.name.now in
    let uri = (get_or c.args.uris.now c.loop-passed.passed (record { ref_ptr = (0, 0); now = [] })).now in
    let right =
    subst (λ (d : Bor Linked). HasResource d.now uri → HasAnchor d.now name → option_map target_view c.in_ok-found.found ≡ schema_with_dynamic_anchor (linked_schemas d.now) uri name)
    c.loop-passed.invariant.linked c.in_ok-found.ensures.ok in
    record {
      linked = c.in_ok-found.ensures.linked ∙ c.loop-passed.invariant.linked;
      before =
          passed_one_more l name c.args.uris.now c.loop-passed.passed c.loop-passed-test.true c.loop-passed.invariant.before
          (λ known. sym (ap is_some (right known c.requires.anchor)) ∙ is_some-map target_view c.in_ok-found.found ∙ sym c.is_some.ensures ∙ c.if-is_some.false);
    }

pub returns-clause-right : goal.returns-clause-right
returns-clause-right c =
    record {
      anchor = c.requires.anchor;
      number = c.requires.number;
      searched = none_searched (followed_in c.args.references.now).now c.args.begun.name.now c.args.uris.now c.loop-passed.passed (omega (arith, c.loop-passed-test.false)) c.loop-passed.invariant.before;
    }
