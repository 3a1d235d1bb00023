mod Applying
mod ObjectKeywords
mod OneKeyword
use Rattle.evaluator.proofs.applying.Evaluation.+apply.Answers.Applying as applying
use Rattle.evaluator.proofs.applying.Evaluation.+apply.Answers.ObjectKeywords as object_keywords
use Rattle.evaluator.proofs.applying.Evaluation.+apply.Answers.OneKeyword as one_keyword
use Rattle.evaluator.proofs.applying.Evaluation.+apply.Goals as goal

pub apply_object-returns-in_ok-settle_object-in-Ok-clause-outcome : goal.apply_object-returns-in_ok-settle_object-in-Ok-clause-outcome
apply_object-returns-in_ok-settle_object-in-Ok-clause-outcome = applying.apply_object-returns-in_ok-settle_object-in-Ok-clause-outcome

pub apply_object-returns-in_err-settle_object-in-Ok-clause-outcome : goal.apply_object-returns-in_err-settle_object-in-Ok-clause-outcome
apply_object-returns-in_err-settle_object-in-Ok-clause-outcome = applying.apply_object-returns-in_err-settle_object-in-Ok-clause-outcome

pub apply_object-returns-in-Err-clause-outcome : goal.apply_object-returns-in-Err-clause-outcome
apply_object-returns-in-Err-clause-outcome = applying.apply_object-returns-in-Err-clause-outcome

pub apply_object-returns-then-applies_nothing-clause-outcome : goal.apply_object-returns-then-applies_nothing-clause-outcome
apply_object-returns-then-applies_nothing-clause-outcome = applying.apply_object-returns-then-applies_nothing-clause-outcome

pub apply-returns-then-is_full-clause-outcome : goal.apply-returns-then-is_full-clause-outcome
apply-returns-then-is_full-clause-outcome = applying.apply-returns-then-is_full-clause-outcome

pub apply-returns-in-Some-clause-outcome : goal.apply-returns-in-Some-clause-outcome
apply-returns-in-Some-clause-outcome = applying.apply-returns-in-Some-clause-outcome

pub apply_other-returns-then-is_looping-clause-outcome : goal.apply_other-returns-then-is_looping-clause-outcome
apply_other-returns-then-is_looping-clause-outcome = applying.apply_other-returns-then-is_looping-clause-outcome

pub apply_other-returns-then-nesting-eq0-clause-outcome : goal.apply_other-returns-then-nesting-eq0-clause-outcome
apply_other-returns-then-nesting-eq0-clause-outcome = applying.apply_other-returns-then-nesting-eq0-clause-outcome

pub apply_other-returns-clause-outcome : goal.apply_other-returns-clause-outcome
apply_other-returns-clause-outcome = applying.apply_other-returns-clause-outcome

pub use_keywords-returns-in-Ok-use_two-clause-outcome : goal.use_keywords-returns-in-Ok-use_two-clause-outcome
use_keywords-returns-in-Ok-use_two-clause-outcome = object_keywords.use_keywords-returns-in-Ok-use_two-clause-outcome

pub use_keywords-returns-in-Err-use_two-clause-outcome : goal.use_keywords-returns-in-Err-use_two-clause-outcome
use_keywords-returns-in-Err-use_two-clause-outcome = object_keywords.use_keywords-returns-in-Err-use_two-clause-outcome

pub use_keywords-returns-in-Err-clause-outcome : goal.use_keywords-returns-in-Err-clause-outcome
use_keywords-returns-in-Err-clause-outcome = object_keywords.use_keywords-returns-in-Err-clause-outcome

pub use_keywords-returns-then-not-looks_at_evaluated-clause-outcome : goal.use_keywords-returns-then-not-looks_at_evaluated-clause-outcome
use_keywords-returns-then-not-looks_at_evaluated-clause-outcome = object_keywords.use_keywords-returns-then-not-looks_at_evaluated-clause-outcome

pub use_groups-loop-next-init : goal.use_groups-loop-next-init
use_groups-loop-next-init = object_keywords.use_groups-loop-next-init

pub use_groups-use_group-requires : goal.use_groups-use_group-requires
use_groups-use_group-requires = object_keywords.use_groups-use_group-requires

pub use_groups-first_mark-next-requires-in-loop-next : goal.use_groups-first_mark-next-requires-in-loop-next
use_groups-first_mark-next-requires-in-loop-next = object_keywords.use_groups-first_mark-next-requires-in-loop-next

pub use_groups-returns-in-Err-clause-outcome : goal.use_groups-returns-in-Err-clause-outcome
use_groups-returns-in-Err-clause-outcome = object_keywords.use_groups-returns-in-Err-clause-outcome

pub use_groups-loop-next-preserved : goal.use_groups-loop-next-preserved
use_groups-loop-next-preserved = object_keywords.use_groups-loop-next-preserved

pub use_groups-returns-clause-outcome : goal.use_groups-returns-clause-outcome
use_groups-returns-clause-outcome = object_keywords.use_groups-returns-clause-outcome

pub use_group-returns-in-One-clause-outcome : goal.use_group-returns-in-One-clause-outcome
use_group-returns-in-One-clause-outcome = object_keywords.use_group-returns-in-One-clause-outcome

pub use_group-returns-in-Conditional-clause-outcome : goal.use_group-returns-in-Conditional-clause-outcome
use_group-returns-in-Conditional-clause-outcome = object_keywords.use_group-returns-in-Conditional-clause-outcome

pub use_group-returns-in-Counted-clause-outcome : goal.use_group-returns-in-Counted-clause-outcome
use_group-returns-in-Counted-clause-outcome = object_keywords.use_group-returns-in-Counted-clause-outcome

pub use_group-returns-in-Empty-clause-outcome : goal.use_group-returns-in-Empty-clause-outcome
use_group-returns-in-Empty-clause-outcome = object_keywords.use_group-returns-in-Empty-clause-outcome

pub use_conditional-returns-in-Ok-use_two-clause-outcome : goal.use_conditional-returns-in-Ok-use_two-clause-outcome
use_conditional-returns-in-Ok-use_two-clause-outcome = object_keywords.use_conditional-returns-in-Ok-use_two-clause-outcome

pub use_conditional-returns-in-Err-use_two-clause-outcome : goal.use_conditional-returns-in-Err-use_two-clause-outcome
use_conditional-returns-in-Err-use_two-clause-outcome = object_keywords.use_conditional-returns-in-Err-use_two-clause-outcome

pub use_conditional-returns-in-Err-clause-outcome : goal.use_conditional-returns-in-Err-clause-outcome
use_conditional-returns-in-Err-clause-outcome = object_keywords.use_conditional-returns-in-Err-clause-outcome

pub use_counted-returns-in-Ok-use_two-clause-outcome : goal.use_counted-returns-in-Ok-use_two-clause-outcome
use_counted-returns-in-Ok-use_two-clause-outcome = object_keywords.use_counted-returns-in-Ok-use_two-clause-outcome

pub use_counted-returns-in-Err-use_two-clause-outcome : goal.use_counted-returns-in-Err-use_two-clause-outcome
use_counted-returns-in-Err-use_two-clause-outcome = object_keywords.use_counted-returns-in-Err-use_two-clause-outcome

pub use_counted-returns-in-Err-clause-outcome : goal.use_counted-returns-in-Err-clause-outcome
use_counted-returns-in-Err-clause-outcome = object_keywords.use_counted-returns-in-Err-clause-outcome

pub use_one-returns-in-None-clause-outcome : goal.use_one-returns-in-None-clause-outcome
use_one-returns-in-None-clause-outcome = object_keywords.use_one-returns-in-None-clause-outcome

pub use_one-returns-in-None-clause-passing : goal.use_one-returns-in-None-clause-passing
use_one-returns-in-None-clause-passing = object_keywords.use_one-returns-in-None-clause-passing

pub use_one-returns-in-Some-clause-outcome : goal.use_one-returns-in-Some-clause-outcome
use_one-returns-in-Some-clause-outcome = object_keywords.use_one-returns-in-Some-clause-outcome

pub use_two-returns-in-Ok-use_named-clause-outcome : goal.use_two-returns-in-Ok-use_named-clause-outcome
use_two-returns-in-Ok-use_named-clause-outcome = object_keywords.use_two-returns-in-Ok-use_named-clause-outcome

pub use_two-returns-in-Err-use_named-clause-outcome : goal.use_two-returns-in-Err-use_named-clause-outcome
use_two-returns-in-Err-use_named-clause-outcome = object_keywords.use_two-returns-in-Err-use_named-clause-outcome

pub use_two-returns-in-Err-clause-outcome : goal.use_two-returns-in-Err-clause-outcome
use_two-returns-in-Err-clause-outcome = object_keywords.use_two-returns-in-Err-clause-outcome

pub use_named-returns-in-Some-clause-outcome : goal.use_named-returns-in-Some-clause-outcome
use_named-returns-in-Some-clause-outcome = object_keywords.use_named-returns-in-Some-clause-outcome

pub use_named-returns-in-Some-clause-passing : goal.use_named-returns-in-Some-clause-passing
use_named-returns-in-Some-clause-passing = object_keywords.use_named-returns-in-Some-clause-passing

pub use_named-returns-in-None-clause-outcome : goal.use_named-returns-in-None-clause-outcome
use_named-returns-in-None-clause-outcome = object_keywords.use_named-returns-in-None-clause-outcome

pub use_named-returns-in-None-clause-passing : goal.use_named-returns-in-None-clause-passing
use_named-returns-in-None-clause-passing = object_keywords.use_named-returns-in-None-clause-passing

pub use_keyword-returns-in-Ok-clause-outcome : goal.use_keyword-returns-in-Ok-clause-outcome
use_keyword-returns-in-Ok-clause-outcome = one_keyword.use_keyword-returns-in-Ok-clause-outcome

pub use_keyword-returns-in-Ok-clause-passing : goal.use_keyword-returns-in-Ok-clause-passing
use_keyword-returns-in-Ok-clause-passing = one_keyword.use_keyword-returns-in-Ok-clause-passing

pub use_keyword-returns-in-Err-clause-outcome : goal.use_keyword-returns-in-Err-clause-outcome
use_keyword-returns-in-Err-clause-outcome = one_keyword.use_keyword-returns-in-Err-clause-outcome

pub apply_all-loop-one-init : goal.apply_all-loop-one-init
apply_all-loop-one-init = one_keyword.apply_all-loop-one-init

pub apply_all-loop-one-preserved : goal.apply_all-loop-one-preserved
apply_all-loop-one-preserved = one_keyword.apply_all-loop-one-preserved

pub apply_all-returns-in-Err-clause-outcome : goal.apply_all-returns-in-Err-clause-outcome
apply_all-returns-in-Err-clause-outcome = one_keyword.apply_all-returns-in-Err-clause-outcome

pub apply_all-returns-clause-outcome : goal.apply_all-returns-clause-outcome
apply_all-returns-clause-outcome = one_keyword.apply_all-returns-clause-outcome

pub apply_entered-returns-in-Ok-clause-stays : goal.apply_entered-returns-in-Ok-clause-stays
apply_entered-returns-in-Ok-clause-stays = one_keyword.apply_entered-returns-in-Ok-clause-stays

pub apply_entered-returns-in-Ok-clause-outcome : goal.apply_entered-returns-in-Ok-clause-outcome
apply_entered-returns-in-Ok-clause-outcome = one_keyword.apply_entered-returns-in-Ok-clause-outcome

pub apply_entered-returns-in-Err-clause-outcome : goal.apply_entered-returns-in-Err-clause-outcome
apply_entered-returns-in-Err-clause-outcome = one_keyword.apply_entered-returns-in-Err-clause-outcome
