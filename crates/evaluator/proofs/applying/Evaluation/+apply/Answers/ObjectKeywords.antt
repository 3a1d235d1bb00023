-- The keywords of a schema object, group by group.
use Rattle.std.proofs.Common.{Bool, ◌≡◌, ◌<◌, ◌∙◌, sym, ap, subst, ◌+◌, ◌≤◌, length, Bor, refl, arith, true, get_or, rules, false, None, Some, OnOk, Ok, Err, ◌&&◌, ◌++◌}
use Rattle.definitions.specs.Applied.{Application}
use Rattle.json_doc.specs.Docs.{value}
use Rattle.keyword_plans.specs.Applications.{named_count}
use Rattle.applicators.specs.Subjects.{subject_value}
use Rattle.evaluation_context.specs.Frames.{context_view}
use Rattle.definitions.specs.Outcomes.{Use}
use Rattle.evaluator.specs.Applying.{HasUses}
use Rattle.evaluator.specs.Findings.{passing_first}
use Rattle.evaluator.specs.declared.siblings.Siblings.{Siblings}
use Rattle.evaluation_log.specs.Logs.{log_view}
use Rattle.evaluation_log.specs.Notes.{notes_of_both, uses_notes}
use Rattle.evaluator.specs.Rounds.{IsAt, two_uses, group_uses, groups_uses, indexes_since, names_since, uses_since, uses_with, unevaluated_uses, Knows}
use Rattle.linker.specs.declared.linked.Linked.{Linked}
use Rattle.keywords.specs.declared.keyword.Keyword.TheVariants.{UnevaluatedItems, UnevaluatedProperties, Ref, If, Then, Else, Contains, MinContains, MaxContains}
use Rattle.evaluator.proofs.KeywordsLaws.{all_uses, last_uses}
use Rattle.evaluator.proofs.UnevaluatedLaws.{items_know, properties_know}
use Rattle.std.specs.List.{list_all}
use Rattle.std.proofs.lemmas.List.{take_all}
use Rattle.evaluator.specs.Groups.{first_groups, stands_alone}
use Rattle.keywords.specs.declared.group.Group.TheVariants.{One}
use Rattle.evaluation_log.proofs.LogLaws.{added_nothing}
use Rattle.evaluator.proofs.PresentLaws.{groups_alone, groups_passed}
use Rattle.evaluator.proofs.TurnLaws.{first_halts, group_halts, group_used, second_halts, uses_both}
use Rattle.evaluator.proofs.UseLaws.{all_at, all_alone, few_groups, still_at}
use Rattle.definitions.specs.Keywords.{condition, contains, min_contains, max_contains}
use Rattle.evaluator.proofs.SiblingLaws.{conditional_uses, knows_nothing, knows_condition, counted_uses, knows_containing, named_told}
use Rattle.evaluator.proofs.AloneLaws.{alone_knows, alone_uses}
use Rattle.keywords.specs.Rows.{row_of}
use Rattle.definitions.specs.Values.{get}
use Rattle.evaluator.proofs.applying.Evaluation.+apply.Goals as goal

pub use_keywords-returns-in-Ok-use_two-clause-outcome : goal.use_keywords-returns-in-Ok-use_two-clause-outcome
use_keywords-returns-in-Ok-use_two-clause-outcome t c a at =
    let l = c.args.self.now.linked.now in
    let left = c.args.nesting in
    let before = c.args.schema_use.now.before in
    let mid = log_view c.use_groups.new.self.log in
    let m = c.use_groups.new.self.linked.now in
    let gs = groups_uses l left a first_groups in
    let both = Ok (c.in-Ok.valid && c.in-Ok-use_two.last) in
    let there = still_at c.in-Ok.ensures.stays.linked c.in-Ok.ensures.stays.back at in
    let first = c.in-Ok.ensures.outcome a at in
    let last = subst (λ (k : Bor Linked). HasUses c.use_groups.new.self c.use_two.new.self (Ok c.in-Ok-use_two.last) a (two_uses k.now left a UnevaluatedItems UnevaluatedProperties before mid))
    c.in-Ok.ensures.stays.linked (c.in-Ok-use_two.ensures.outcome a there (items_know m left a _) (properties_know m left a _)) in
    subst (HasUses c.args.self.now c.use_two.new.self both a) (ap (λ us. gs ++ us) (last_uses l left a before (log_view c.args.self.now.log) mid c.requires.before first.noted) ∙ all_uses l left a)
    (uses_both a gs (two_uses l left a UnevaluatedItems UnevaluatedProperties before mid) first last)

pub use_keywords-returns-in-Err-use_two-clause-outcome : goal.use_keywords-returns-in-Err-use_two-clause-outcome
use_keywords-returns-in-Err-use_two-clause-outcome t c a at =
    let l = c.args.self.now.linked.now in
    let left = c.args.nesting in
    let before = c.args.schema_use.now.before in
    let mid = log_view c.use_groups.new.self.log in
    let m = c.use_groups.new.self.linked.now in
    let gs = groups_uses l left a first_groups in
    let there = still_at c.in-Ok.ensures.stays.linked c.in-Ok.ensures.stays.back at in
    let first = c.in-Ok.ensures.outcome a at in
    let last = subst (λ (k : Bor Linked). HasUses c.use_groups.new.self c.use_two.new.self (Err c.in-Err-use_two.fault) a (two_uses k.now left a UnevaluatedItems UnevaluatedProperties before mid))
    c.in-Ok.ensures.stays.linked (c.in-Err-use_two.ensures.outcome a there (items_know m left a _) (properties_know m left a _)) in
    subst (HasUses c.args.self.now c.use_two.new.self (Err c.in-Err-use_two.fault) a)
    (ap (λ us. gs ++ us) (last_uses l left a before (log_view c.args.self.now.log) mid c.requires.before first.noted) ∙ all_uses l left a)
    (second_halts a gs (two_uses l left a UnevaluatedItems UnevaluatedProperties before mid) first last)

pub use_keywords-returns-in-Err-clause-outcome : goal.use_keywords-returns-in-Err-clause-outcome
use_keywords-returns-in-Err-clause-outcome t c a at =
    let l = c.args.self.now.linked.now in
    let gs = groups_uses l c.args.nesting a first_groups in
    subst (HasUses c.args.self.now c.use_groups.new.self (Err c.in-Err.fault) a) (all_uses l c.args.nesting a)
    (first_halts a gs (unevaluated_uses l c.args.nesting a gs) (c.in-Err.ensures.outcome a at))

pub use_keywords-returns-then-not-looks_at_evaluated-clause-outcome : goal.use_keywords-returns-then-not-looks_at_evaluated-clause-outcome
use_keywords-returns-then-not-looks_at_evaluated-clause-outcome t c a at =
    subst (HasUses c.args.self.now c.use_groups.new.self (Ok c.in-Ok.valid) a)
    (groups_alone c.args.self.now.linked.now c.args.nesting a (value c.args.schema_use.now.present.now.schema.now) (ap (λ (b : Application). b.schema.value) at.there)
    (c.looks_at_evaluated.ensures c.if-not-looks_at_evaluated.true))
    (c.in-Ok.ensures.outcome a at)

pub use_groups-loop-next-init : goal.use_groups-loop-next-init
use_groups-loop-next-init t c =
    let l = c.args.self.now.linked.now in
    let none = λ (a : Application) (at : IsAt l (context_view c.args.self.now.context) (value c.args.schema_use.now.present.now.schema.now) (subject_value c.args.schema_use.now.subject) a).
    groups_passed l c.args.nesting a (value c.args.schema_use.now.present.now.schema.now) 0 c.first_mark-next.result (ap (λ (b : Application). b.schema.value) at.there) c.first_mark-next.ensures.onward c.first_mark-next.ensures.passed in
    record {
      linked = refl;
      back = refl;
      outcome = λ a at. record {
        found = ap (list_all (λ (u : Use). u.passes)) (none a at);
        noted = sym (added_nothing (log_view c.args.self.now.log)) ∙ ap (λ us. notes_of_both (log_view c.args.self.now.log) (uses_notes a us)) (none a at);
        err = tt;
      };
      named = λ a at. omega arith;
    }

pub use_groups-use_group-requires : goal.use_groups-use_group-requires
use_groups-use_group-requires t c = (
  search rules,
  all_at stands_alone c.first_groups-groups.result.now c.loop-next.next (One Ref) (ap (list_all stands_alone) c.first_groups-groups.ensures ∙ all_alone) c.loop-next-test.true,
)

pub use_groups-first_mark-next-requires-in-loop-next : goal.use_groups-first_mark-next-requires-in-loop-next
use_groups-first_mark-next-requires-in-loop-next t c =
    let inside : c.loop-next.next < length first_groups = subst (λ gs. c.loop-next.next < length gs) c.first_groups-groups.ensures c.loop-next-test.true in
    omega (arith, inside, few_groups)

pub use_groups-returns-in-Err-clause-outcome : goal.use_groups-returns-in-Err-clause-outcome
use_groups-returns-in-Err-clause-outcome t c a at =
    let same = c.loop-next.invariant.linked in
    let l = c.args.self.now.linked.now in
    let i = c.loop-next.next in
    let there = still_at same c.loop-next.invariant.back at in
    let inside : i < length first_groups = subst (λ gs. i < length gs) c.first_groups-groups.ensures c.loop-next-test.true in
    let halts = subst (λ (k : Bor Linked). HasUses c.loop-next.self c.use_group.new.self (Err c.in-Err.fault) a (group_uses k.now c.args.nesting a (get_or c.first_groups-groups.result.now i (One Ref)))) same
    (c.in-Err.ensures.outcome a there (c.loop-next.invariant.named a at)) in
    group_halts a (group_uses l c.args.nesting a) first_groups i (One Ref) inside (c.loop-next.invariant.outcome a at)
    (subst (λ gs. HasUses c.loop-next.self c.use_group.new.self (Err c.in-Err.fault) a (group_uses l c.args.nesting a (get_or gs i (One Ref)))) c.first_groups-groups.ensures halts)

pub use_groups-loop-next-preserved : goal.use_groups-loop-next-preserved
use_groups-loop-next-preserved t c =
    let same = c.loop-next.invariant.linked in
    let l = c.args.self.now.linked.now in
    let i = c.loop-next.next in
    let inside : i < length first_groups = subst (λ gs. i < length gs) c.first_groups-groups.ensures c.loop-next-test.true in
    let here : get_or c.first_groups-groups.result.now i (One Ref) ≡ get_or first_groups i (One Ref) = ap (λ gs. get_or gs i (One Ref)) c.first_groups-groups.ensures in
    record {
      linked = c.in-Ok.ensures.stays.linked ∙ same;
      back = c.in-Ok.ensures.stays.back ∙ c.loop-next.invariant.back;
      outcome =
          λ a at.
          let there = still_at same c.loop-next.invariant.back at in
          let on = groups_passed l c.args.nesting a (value c.args.schema_use.now.present.now.schema.now) (i + 1) c.first_mark-next-in-loop-next.result (ap (λ (b : Application). b.schema.value) at.there) c.first_mark-next-in-loop-next.ensures.onward c.first_mark-next-in-loop-next.ensures.passed in
          let used = subst (λ (m : Bor Linked). HasUses c.loop-next.self c.use_group.new.self (Ok c.in-Ok.passes) a (group_uses m.now c.args.nesting a (get_or c.first_groups-groups.result.now i (One Ref)))) same
          (c.in-Ok.ensures.outcome a there (c.loop-next.invariant.named a at)) in
          subst (HasUses c.args.self.now c.use_group.new.self (Ok (c.loop-next.valid && c.in-Ok.passes)) a) on
          (group_used a (group_uses l c.args.nesting a) first_groups i (One Ref) inside (c.loop-next.invariant.outcome a at)
          (subst (λ g. HasUses c.loop-next.self c.use_group.new.self (Ok c.in-Ok.passes) a (group_uses l c.args.nesting a g)) here used));
      named =
          λ a at.
          let there = still_at same c.loop-next.invariant.back at in
          let m = c.loop-next.self.linked.now in
          c.named_after-named.ensures (named_count a) (c.loop-next.invariant.named a at)
          (λ is. named_told m c.args.nesting a c.use_group.new.self.passing
          (c.in-Ok.ensures.passing a there (c.loop-next.invariant.named a at) is ∙ ap (λ g. passing_first (group_uses m c.args.nesting a g)) is));
    }

pub use_groups-returns-clause-outcome : goal.use_groups-returns-clause-outcome
use_groups-returns-clause-outcome t c a at =
    let past : length first_groups ≤ c.loop-next.next = subst (λ gs. length gs ≤ c.loop-next.next) c.first_groups-groups.ensures c.loop-next-test.false in
    subst (λ gs. HasUses c.args.self.now c.loop-next.self (Ok c.loop-next.valid) a (groups_uses c.args.self.now.linked.now c.args.nesting a gs)) (take_all c.loop-next.next first_groups past)
    (c.loop-next.invariant.outcome a at)

pub use_group-returns-in-One-clause-outcome : goal.use_group-returns-in-One-clause-outcome
use_group-returns-in-One-clause-outcome t c a at most = rw c.in-One.is (c.use_one.ensures.outcome a at most)

pub use_group-returns-in-Conditional-clause-outcome : goal.use_group-returns-in-Conditional-clause-outcome
use_group-returns-in-Conditional-clause-outcome t c a at most = rw c.in-Conditional.is (c.use_conditional.ensures.outcome a at)

pub use_group-returns-in-Counted-clause-outcome : goal.use_group-returns-in-Counted-clause-outcome
use_group-returns-in-Counted-clause-outcome t c a at most = rw c.in-Counted.is (c.use_counted.ensures.outcome a at)

pub use_group-returns-in-Empty-clause-outcome : goal.use_group-returns-in-Empty-clause-outcome
use_group-returns-in-Empty-clause-outcome t c a at most =
    rw c.in-Empty.is (record { found = refl; noted = sym (added_nothing (log_view c.args.self.now.log)); err = tt })

pub use_conditional-returns-in-Ok-use_two-clause-outcome : goal.use_conditional-returns-in-Ok-use_two-clause-outcome
use_conditional-returns-in-Ok-use_two-clause-outcome t c a at =
    let l = c.args.self.now.linked.now in
    let left = c.args.nesting in
    let before = c.args.schema_use.now.before in
    let n = log_view c.args.self.now.log in
    let mid = log_view c.use_named.new.self.log in
    let m = c.use_named.new.self.linked.now in
    let linked = c.in-Ok.ensures.stays.linked in
    let there = still_at linked c.in-Ok.ensures.stays.back at in
    let nothing = knows_nothing l left a condition c.nothing.result refl refl refl in
    let told = subst (λ (k : Bor Linked). c.use_named.new.self.passing ≡ passing_first (uses_since k.now left a If before n)) (sym linked) (c.in-Ok.ensures.passing a at nothing) in
    let told_so = λ (wanted : Bool). knows_condition m left a c.use_named.new.self.passing wanted before n c.after_if-siblings.result told (ap (λ (b : Siblings). b.condition) c.after_if-siblings.ensures) in
    let others = subst (λ (k : Bor Linked). HasUses c.use_named.new.self c.use_two.new.self (Ok c.in-Ok-use_two.others) a (two_uses k.now left a Then Else before mid)) linked
    (c.in-Ok-use_two.ensures.outcome a there (told_so true) (told_so false)) in
    subst (HasUses c.args.self.now c.use_two.new.self (Ok (c.in-Ok.valid && c.in-Ok-use_two.others)) a) (conditional_uses l left a before n mid)
    (uses_both a (uses_since l left a If before n) (two_uses l left a Then Else before mid) (c.in-Ok.ensures.outcome a at nothing) others)

pub use_conditional-returns-in-Err-use_two-clause-outcome : goal.use_conditional-returns-in-Err-use_two-clause-outcome
use_conditional-returns-in-Err-use_two-clause-outcome t c a at =
    let l = c.args.self.now.linked.now in
    let left = c.args.nesting in
    let before = c.args.schema_use.now.before in
    let n = log_view c.args.self.now.log in
    let mid = log_view c.use_named.new.self.log in
    let m = c.use_named.new.self.linked.now in
    let linked = c.in-Ok.ensures.stays.linked in
    let there = still_at linked c.in-Ok.ensures.stays.back at in
    let nothing = knows_nothing l left a condition c.nothing.result refl refl refl in
    let told = subst (λ (k : Bor Linked). c.use_named.new.self.passing ≡ passing_first (uses_since k.now left a If before n)) (sym linked) (c.in-Ok.ensures.passing a at nothing) in
    let told_so = λ (wanted : Bool). knows_condition m left a c.use_named.new.self.passing wanted before n c.after_if-siblings.result told (ap (λ (b : Siblings). b.condition) c.after_if-siblings.ensures) in
    let others = subst (λ (k : Bor Linked). HasUses c.use_named.new.self c.use_two.new.self (Err c.in-Err-use_two.fault) a (two_uses k.now left a Then Else before mid)) linked
    (c.in-Err-use_two.ensures.outcome a there (told_so true) (told_so false)) in
    subst (HasUses c.args.self.now c.use_two.new.self (Err c.in-Err-use_two.fault) a) (conditional_uses l left a before n mid)
    (second_halts a (uses_since l left a If before n) (two_uses l left a Then Else before mid) (c.in-Ok.ensures.outcome a at nothing) others)

pub use_conditional-returns-in-Err-clause-outcome : goal.use_conditional-returns-in-Err-clause-outcome
use_conditional-returns-in-Err-clause-outcome t c a at =
    let l = c.args.self.now.linked.now in
    let left = c.args.nesting in
    let before = c.args.schema_use.now.before in
    let n = log_view c.args.self.now.log in
    subst (HasUses c.args.self.now c.use_named.new.self (Err c.in-Err.fault) a) (conditional_uses l left a before n n)
    (first_halts a (uses_since l left a If before n) (two_uses l left a Then Else before n) (c.in-Err.ensures.outcome a at (knows_nothing l left a condition _ refl refl refl)))

pub use_counted-returns-in-Ok-use_two-clause-outcome : goal.use_counted-returns-in-Ok-use_two-clause-outcome
use_counted-returns-in-Ok-use_two-clause-outcome t c a at =
    let l = c.args.self.now.linked.now in
    let left = c.args.nesting in
    let before = c.args.schema_use.now.before in
    let n = log_view c.args.self.now.log in
    let mid = log_view c.use_named.new.self.log in
    let m = c.use_named.new.self.linked.now in
    let linked = c.in-Ok.ensures.stays.linked in
    let there = still_at linked c.in-Ok.ensures.stays.back at in
    let nothing = knows_nothing l left a contains c.nothing.result refl refl refl in
    let told = subst (λ (k : Bor Linked). c.use_named.new.self.passing ≡ passing_first (uses_since k.now left a Contains before n)) (sym linked) (c.in-Ok.ensures.passing a at nothing) in
    let counts = ap (λ (b : Siblings). b.containing) c.after_contains-siblings.ensures in
    let first = knows_containing m left a c.use_named.new.self.passing min_contains before n c.after_contains-siblings.result told counts refl refl in
    let second = knows_containing m left a c.use_named.new.self.passing max_contains before n c.after_contains-siblings.result told counts refl refl in
    let others = subst (λ (k : Bor Linked). HasUses c.use_named.new.self c.use_two.new.self (Ok c.in-Ok-use_two.others) a (two_uses k.now left a MinContains MaxContains before mid)) linked
    (c.in-Ok-use_two.ensures.outcome a there first second) in
    subst (HasUses c.args.self.now c.use_two.new.self (Ok (c.in-Ok.valid && c.in-Ok-use_two.others)) a) (counted_uses l left a before n mid)
    (uses_both a (uses_since l left a Contains before n) (two_uses l left a MinContains MaxContains before mid) (c.in-Ok.ensures.outcome a at nothing) others)

pub use_counted-returns-in-Err-use_two-clause-outcome : goal.use_counted-returns-in-Err-use_two-clause-outcome
use_counted-returns-in-Err-use_two-clause-outcome t c a at =
    let l = c.args.self.now.linked.now in
    let left = c.args.nesting in
    let before = c.args.schema_use.now.before in
    let n = log_view c.args.self.now.log in
    let mid = log_view c.use_named.new.self.log in
    let m = c.use_named.new.self.linked.now in
    let linked = c.in-Ok.ensures.stays.linked in
    let there = still_at linked c.in-Ok.ensures.stays.back at in
    let nothing = knows_nothing l left a contains c.nothing.result refl refl refl in
    let told = subst (λ (k : Bor Linked). c.use_named.new.self.passing ≡ passing_first (uses_since k.now left a Contains before n)) (sym linked) (c.in-Ok.ensures.passing a at nothing) in
    let counts = ap (λ (b : Siblings). b.containing) c.after_contains-siblings.ensures in
    let first = knows_containing m left a c.use_named.new.self.passing min_contains before n c.after_contains-siblings.result told counts refl refl in
    let second = knows_containing m left a c.use_named.new.self.passing max_contains before n c.after_contains-siblings.result told counts refl refl in
    let others = subst (λ (k : Bor Linked). HasUses c.use_named.new.self c.use_two.new.self (Err c.in-Err-use_two.fault) a (two_uses k.now left a MinContains MaxContains before mid)) linked
    (c.in-Err-use_two.ensures.outcome a there first second) in
    subst (HasUses c.args.self.now c.use_two.new.self (Err c.in-Err-use_two.fault) a) (counted_uses l left a before n mid)
    (second_halts a (uses_since l left a Contains before n) (two_uses l left a MinContains MaxContains before mid) (c.in-Ok.ensures.outcome a at nothing) others)

pub use_counted-returns-in-Err-clause-outcome : goal.use_counted-returns-in-Err-clause-outcome
use_counted-returns-in-Err-clause-outcome t c a at =
    let l = c.args.self.now.linked.now in
    let left = c.args.nesting in
    let before = c.args.schema_use.now.before in
    let n = log_view c.args.self.now.log in
    subst (HasUses c.args.self.now c.use_named.new.self (Err c.in-Err.fault) a) (counted_uses l left a before n n)
    (first_halts a (uses_since l left a Contains before n) (two_uses l left a MinContains MaxContains before n) (c.in-Err.ensures.outcome a at (knows_nothing l left a contains _ refl refl refl)))

pub use_one-returns-in-None-clause-outcome : goal.use_one-returns-in-None-clause-outcome
use_one-returns-in-None-clause-outcome t c a at most =
    let l = c.args.self.now.linked.now in
    subst (HasUses c.args.self.now c.use_named.new.self c.use_named.result a) (alone_uses l c.args.nesting a c.args.keyword c.args.schema_use.now.before (log_view c.args.self.now.log) c.requires.alone)
    (c.use_named.ensures.outcome a at (alone_knows l c.args.nesting a c.args.keyword c.args.named _ c.requires.alone c.after_properties.ensures most))

pub use_one-returns-in-None-clause-passing : goal.use_one-returns-in-None-clause-passing
use_one-returns-in-None-clause-passing t c a at most is =
    let l = c.args.self.now.linked.now in
    subst (λ us. OnOk c.use_named.result (c.use_named.new.self.passing ≡ passing_first us)) (alone_uses l c.args.nesting a c.args.keyword c.args.schema_use.now.before (log_view c.args.self.now.log) c.requires.alone)
    (c.use_named.ensures.passing a at (alone_knows l c.args.nesting a c.args.keyword c.args.named _ c.requires.alone c.after_properties.ensures most))

pub use_one-returns-in-Some-clause-outcome : goal.use_one-returns-in-Some-clause-outcome
use_one-returns-in-Some-clause-outcome t c a at most = c.use_assertion.ensures.outcome a c.args.nesting at

pub use_two-returns-in-Ok-use_named-clause-outcome : goal.use_two-returns-in-Ok-use_named-clause-outcome
use_two-returns-in-Ok-use_named-clause-outcome t c a at knows knows_second =
    let l = c.args.self.now.linked.now in
    let left = c.args.nesting in
    let before = c.args.schema_use.now.before in
    let mid = log_view c.use_named.new.self.log in
    let us = uses_since l left a c.args.first before (log_view c.args.self.now.log) in
    let linked = c.in-Ok.ensures.stays.linked in
    let there = still_at linked c.in-Ok.ensures.stays.back at in
    let known = subst (λ (m : Bor Linked). Knows m.now left a (row_of c.args.second).meaning c.args.siblings) (sym linked) knows_second in
    let first = c.in-Ok.ensures.outcome a at knows in
    let last = subst (λ (m : Bor Linked). HasUses c.use_named.new.self c.use_named-in-Ok.new.self (Ok c.in-Ok-use_named.last) a (uses_since m.now left a c.args.second before mid)) linked
    (c.in-Ok-use_named.ensures.outcome a there known) in
    subst (λ n. HasUses c.args.self.now c.use_named-in-Ok.new.self (Ok (c.in-Ok.valid && c.in-Ok-use_named.last)) a (us ++ uses_since l left a c.args.second before n)) first.noted
    (uses_both a us (uses_since l left a c.args.second before mid) first last)

pub use_two-returns-in-Err-use_named-clause-outcome : goal.use_two-returns-in-Err-use_named-clause-outcome
use_two-returns-in-Err-use_named-clause-outcome t c a at knows knows_second =
    let l = c.args.self.now.linked.now in
    let left = c.args.nesting in
    let before = c.args.schema_use.now.before in
    let mid = log_view c.use_named.new.self.log in
    let us = uses_since l left a c.args.first before (log_view c.args.self.now.log) in
    let linked = c.in-Ok.ensures.stays.linked in
    let there = still_at linked c.in-Ok.ensures.stays.back at in
    let known = subst (λ (m : Bor Linked). Knows m.now left a (row_of c.args.second).meaning c.args.siblings) (sym linked) knows_second in
    let first = c.in-Ok.ensures.outcome a at knows in
    let last = subst (λ (m : Bor Linked). HasUses c.use_named.new.self c.use_named-in-Ok.new.self (Err c.in-Err-use_named.fault) a (uses_since m.now left a c.args.second before mid)) linked
    (c.in-Err-use_named.ensures.outcome a there known) in
    subst (λ n. HasUses c.args.self.now c.use_named-in-Ok.new.self (Err c.in-Err-use_named.fault) a (us ++ uses_since l left a c.args.second before n)) first.noted
    (second_halts a us (uses_since l left a c.args.second before mid) first last)

pub use_two-returns-in-Err-clause-outcome : goal.use_two-returns-in-Err-clause-outcome
use_two-returns-in-Err-clause-outcome t c a at knows knows_second =
    let l = c.args.self.now.linked.now in
    let n = log_view c.args.self.now.log in
    let us = uses_since l c.args.nesting a c.args.first c.args.schema_use.now.before n in
    first_halts a us (uses_since l c.args.nesting a c.args.second c.args.schema_use.now.before (notes_of_both n (uses_notes a us))) (c.in-Err.ensures.outcome a at knows)

pub use_named-returns-in-Some-clause-outcome : goal.use_named-returns-in-Some-clause-outcome
use_named-returns-in-Some-clause-outcome t c a at knows =
    let l = c.args.self.now.linked.now in
    let k = c.args.keyword in
    let n = log_view c.args.self.now.log in
    let got : get (row_of k).name a.schema.value ≡ Some (value c.in-Some.keyword_value.now) =
    ap (λ (b : Application). get (row_of k).name b.schema.value) at.there ∙ sym c.in-Some.ensures in
    subst (λ v. HasUses c.args.self.now c.use_keyword.new.self c.use_keyword.result a (uses_with l c.args.nesting a k (names_since c.args.schema_use.now.before n) (indexes_since c.args.schema_use.now.before n) v)) (sym got)
    (c.use_keyword.ensures.outcome a (record { schema_use = at; knows = knows; valued = got }))

pub use_named-returns-in-Some-clause-passing : goal.use_named-returns-in-Some-clause-passing
use_named-returns-in-Some-clause-passing t c a at knows =
    let l = c.args.self.now.linked.now in
    let k = c.args.keyword in
    let n = log_view c.args.self.now.log in
    let got : get (row_of k).name a.schema.value ≡ Some (value c.in-Some.keyword_value.now) =
    ap (λ (b : Application). get (row_of k).name b.schema.value) at.there ∙ sym c.in-Some.ensures in
    subst (λ v. OnOk c.use_keyword.result (c.use_keyword.new.self.passing ≡ passing_first (uses_with l c.args.nesting a k (names_since c.args.schema_use.now.before n) (indexes_since c.args.schema_use.now.before n) v))) (sym got)
    (c.use_keyword.ensures.passing a (record { schema_use = at; knows = knows; valued = got }))

pub use_named-returns-in-None-clause-outcome : goal.use_named-returns-in-None-clause-outcome
use_named-returns-in-None-clause-outcome t c a at knows =
    let none : get (row_of c.args.keyword).name a.schema.value ≡ None = ap (λ (b : Application). get (row_of c.args.keyword).name b.schema.value) at.there ∙ sym c.in-None.ensures in
    rw none (record { found = refl; noted = sym (added_nothing (log_view c.args.self.now.log)); err = tt })

pub use_named-returns-in-None-clause-passing : goal.use_named-returns-in-None-clause-passing
use_named-returns-in-None-clause-passing t c a at knows =
    let none : get (row_of c.args.keyword).name a.schema.value ≡ None = ap (λ (b : Application). get (row_of c.args.keyword).name b.schema.value) at.there ∙ sym c.in-None.ensures in
    rw none refl
