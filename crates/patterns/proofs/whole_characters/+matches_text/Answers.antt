use Rattle.std.proofs.Common.{sym, ap, ◌∙◌, subst, true}
use Rattle.regex_hir.specs.Meaning.{meaning}
use Rattle.regex_hir.proofs.MeaningLemmas.{meaning-Bytes, meaning-Repetition, meaning-Concat, meaning-Alternation}
use Rattle.regex.specs.Writes.{HasTextParts}
use Rattle.regex.proofs.WritesLemmas.{HasTextParts-repeat, HasTextParts-cat_all, HasTextParts-alt_all}
use Rattle.regex_syntax.specs.WellFormed.{IsWellFormed}
use Rattle.regex_syntax.proofs.WellFormedLemmas.{IsWellFormed-Concat}
use Rattle.patterns.proofs.whole_characters.+matches_text.Goals as goal

pub matches_text-returns-in-Bytes-clause-text : goal.matches_text-returns-in-Bytes-clause-text
matches_text-returns-in-Bytes-clause-text t c =
    λ yes_is. subst HasTextParts (sym (ap meaning c.in-Bytes.is ∙ meaning-Bytes _)) (c.is_within.ensures.0 yes_is)

pub matches_text-returns-in-Repetition-clause-text : goal.matches_text-returns-in-Repetition-clause-text
matches_text-returns-in-Repetition-clause-text t c =
    λ yes_is. subst HasTextParts (sym (ap meaning c.in-Repetition.is ∙ meaning-Repetition _ _ _ _)) (HasTextParts-repeat _ _ _ _ (rw (← c.deref-in-Repetition.ensures) (c.matches_text.ensures.text yes_is)))

pub matches_text-returns-in-Concat-clause-text : goal.matches_text-returns-in-Concat-clause-text
matches_text-returns-in-Concat-clause-text t c =
    λ yes_is. subst HasTextParts (sym (ap meaning c.in-Concat.is ∙ meaning-Concat _)) (HasTextParts-cat_all _ (rw (← c.deref-in-Concat.ensures.value) (c.all_match_text.ensures.text yes_is)))

pub matches_text-returns-in-Alternation-clause-text : goal.matches_text-returns-in-Alternation-clause-text
matches_text-returns-in-Alternation-clause-text t c =
    λ yes_is. subst HasTextParts (sym (ap meaning c.in-Alternation.is ∙ meaning-Alternation _)) (HasTextParts-alt_all _ (rw (← c.deref-in-Alternation.ensures.value) (c.all_match_text-in-Alternation.ensures.text yes_is)))

pub matches_text-returns-in-Concat-clause-parsed : goal.matches_text-returns-in-Concat-clause-parsed
matches_text-returns-in-Concat-clause-parsed t c =
    λ formed. c.all_match_text.ensures.parsed
    (rw c.deref-in-Concat.ensures.value ((IsWellFormed-Concat true _).0 (subst (IsWellFormed true) c.in-Concat.is formed)))

pub matches_text-returns-in-Alternation-clause-parsed : goal.matches_text-returns-in-Alternation-clause-parsed
matches_text-returns-in-Alternation-clause-parsed t c =
    λ formed. c.all_match_text-in-Alternation.ensures.parsed
    (rw c.deref-in-Alternation.ensures.value ((IsWellFormed-Concat true _).0 (subst (IsWellFormed true) c.in-Alternation.is formed)))
