-- What the DFA and the NFA answer, as facts on the pattern's text.
use Rattle.std.proofs.Common.{◌≡◌, ℕ, ◌+◌, ◌<◌, Bool, true, false, Option, Some, None, All, IsSome, is_some, option_map, length, refl, sym, ap, ◌∙◌, ⊎_elim, arith, List, nat_lt, Result, Ok, Err, IfOk}
use Rattle.std.proofs.lemmas.Bool.Decides.{nat_tests}
use Rattle.definitions.specs.Values.{Text}
use Rattle.definitions.specs.Patterns.{has_match}
use Rattle.patterns.specs.Machines.{Spells}
use Rattle.patterns.proofs.Readings.{finds_its_text}
use Rattle.regex.specs.Search.{leftmost_in}
use Rattle.regex.proofs.SearchLemmas.{leftmost_none, leftmost_here, leftmost_retry, inside_char}
use Rattle.regex.proofs.Utf8Lemmas.{find_str_of_filled}
use Rattle.regex_compile.specs.Implements.{Implements}
use Rattle.regex_dfa.specs.Search.{end_from}
use Rattle.regex_hir.specs.Find.{Match, find, find_str}
use Rattle.regex_hir.specs.Matches.{IsMinLen}
use Rattle.regex_hir.specs.Meaning.{meaning}
use Rattle.regex_hir.specs.Re.{Re, Trace, empty}
use Rattle.regex_hir.specs.Text.{is_boundary}
use Rattle.regex_hir.proofs.FindLemmas.{first_between_cong}
use Rattle.regex_hir.proofs.OptionLemmas.{option_cases}
use Rattle.regex_meta.proofs.LeftmostLemmas.{Matches-of_attempt, find_here}
use Rattle.regex_meta.proofs.PlansLemmas.{anchored_none}
use Rattle.regex_meta.proofs.ProgramLemmas.{none_of_option_map, value_of_option_map}
use Rattle.regex_nfa.specs.Run.{run, find_in}
use Rattle.regex_nfa.specs.declared.nfa.Nfa.{Nfa}
use Rattle.regex_nfa.proofs.SearchLemmas.{run_unanchored}
use Rattle.regex_vm.specs.Found.{first_match, span}

is_some-option_map : {A B : Type 0} (f : A → B) (o : Option A) → is_some (option_map f o) ≡ is_some o
is_some-option_map f None = refl
is_some-option_map f (Some x) = refl

module _ (source : Text) (nfa : Nfa) (is_anchored is_filled : Bool) (s : Spells source nfa is_anchored is_filled) (hay : Text)
    (small : All (λ b. b < 256) hay) where
  -- a search in text for the tree
  wanted_is : is_some (leftmost_in true (meaning s.hir) hay 0) ≡ has_match source hay
  wanted_is = finds_its_text source s.hir s.names s.reads hay small

  -- the NFA finds what the tree has
  pub by_nfa : (start : ℕ) → first_match nfa hay (length hay) start (length hay) ≡ find (meaning s.hir) hay start
  unfolding find
  by_nfa start = first_between_cong _ _ start (length hay) (λ i _ _. s.implements hay i)

  from_unanchored : is_some (end_from nfa hay (length hay) nfa.unanchored 0) ≡ is_some (find (meaning s.hir) hay 0)
  unfolding find_in
  from_unanchored =
      is_some-option_map _ _ ∙ ap is_some (run_unanchored nfa hay (length hay) 0 small (omega arith) (omega arith))
      ∙ is_some-option_map _ _ ∙ ap is_some (by_nfa 0)

  -- no end, no match
  pub none_at_all : end_from nfa hay (length hay) nfa.unanchored 0 ≡ None → has_match source hay ≡ false
  none_at_all e = sym wanted_is ∙ ap is_some (leftmost_none (meaning s.hir) hay true 0
      (none_of_is_some _ (sym from_unanchored ∙ ap is_some e)))
    where
      none_of_is_some : (o : Option Match) → is_some o ≡ false → o ≡ None
      none_of_is_some None e = refl
      none_of_is_some (Some m) e = absurd (cc e)

  -- an end, and no match is empty: a match in text
  pub some_filled : is_filled ≡ true → IsSome (end_from nfa hay (length hay) nfa.unanchored 0) → has_match source hay ≡ true
  unfolding IsMinLen
  some_filled full some =
      sym wanted_is ∙ sym (ap is_some (find_str_of_filled (meaning s.hir) hay small ∣ s.whole ∣₁
      (λ i t e. let long = s.filled full hay i t.end (Matches-of_attempt (meaning s.hir) hay i t e) in omega arith) 0))
      ∙ sym from_unanchored ∙ some

  -- a match at the very start is one in text
  pub some_at_start : is_boundary hay 0 ≡ true → IsSome (end_from nfa hay (length hay) nfa.start 0) → has_match source hay ≡ true
  some_at_start cut some = ⊎_elim
      (λ none. absurd (cc (sym some ∙ ap (λ (o : Option Trace). is_some (option_map (λ t. t.end) o)) none)))
      (λ (found : (t : Trace) × (run nfa hay (length hay) nfa.start 0 ≡ Some t)).
      let here = find_here (meaning s.hir) hay 0 found.0 (omega arith) (sym (s.implements hay 0) ∙ found.1) in
      sym wanted_is ∙ ap is_some (leftmost_here (meaning s.hir) hay true 0 _ here (λ _. cut)))
      (option_cases (run nfa hay (length hay) nfa.start 0))

  -- none at the start, where each match begins
  pub none_at_start : is_anchored ≡ true → end_from nfa hay (length hay) nfa.start 0 ≡ None → has_match source hay ≡ false
  none_at_start always e =
      let none = sym (s.implements hay 0) ∙ none_of_option_map _ _ e in
      sym wanted_is ∙ ap is_some (leftmost_none (meaning s.hir) hay true 0 (anchored_none (meaning s.hir) hay (s.anchored always) none))

  pub by_threads : {E : Type 0} (r : Result Bool E) →
      ((re : Re) → Implements nfa re → IfOk r (λ found. found ≡ is_some (find_str re hay 0))) → IfOk r (λ found. found ≡ has_match source hay)
  by_threads (Ok found) h = h (meaning s.hir) s.implements ∙ wanted_is
  by_threads (Err e) h = tt

module _ (nfa : Nfa) (re : Re) (implements : Implements nfa re) (hay : List ℕ) where
  first_is : (start : ℕ) → first_match nfa hay (length hay) start (length hay) ≡ find re hay start
  unfolding find
  first_is start = first_between_cong _ _ start (length hay) (λ i _ _. implements hay i)

  -- the NFA has no match from a place on
  pub threads_none : (at : ℕ) → None ≡ option_map span (first_match nfa hay (length hay) at (length hay)) → leftmost_in true re hay at ≡ None
  threads_none at e = leftmost_none re hay true at (none_of_option_map span _ (sym (e ∙ ap (option_map span) (first_is at))))

  -- it has one, which starts a character
  pub threads_here : (at from end : ℕ) → Some (from, end) ≡ option_map span (first_match nfa hay (length hay) at (length hay)) →
      is_boundary hay from ≡ true → is_some (leftmost_in true re hay at) ≡ true
  threads_here at from end e cut =
      let v = value_of_option_map span (find re hay at) (from, end) (sym (e ∙ ap (option_map span) (first_is at))) in
      let starts : v.0.start ≡ from = ap (λ x. x.0) v.2 in
      ap is_some (leftmost_here re hay true at v.0 v.1 (λ _. ap (is_boundary hay) starts ∙ cut))

  -- it has one, which starts within a character
  pub threads_retry : (at from end : ℕ) → Some (from, end) ≡ option_map span (first_match nfa hay (length hay) at (length hay)) →
      is_boundary hay from ≡ false → leftmost_in true re hay at ≡ leftmost_in true re hay (from + 1)
  threads_retry at from end e inside =
      let v = value_of_option_map span (find re hay at) (from, end) (sym (e ∙ ap (option_map span) (first_is at))) in
      let starts : v.0.start ≡ from = ap (λ x. x.0) v.2 in
      leftmost_retry re hay true at v.0 refl v.1 (ap (is_boundary hay) starts ∙ inside)
      ∙ ap (λ n. leftmost_in true re hay (n + 1)) starts

pub goes_on_inside : (hay : List ℕ) (from : ℕ) → is_boundary hay from ≡ false → from < length hay
goes_on_inside hay from inside = inside_char empty hay from inside

pub filled_from : (re : Re) (n : ℕ) → IsMinLen re n → nat_lt 0 n ≡ true → IsMinLen re 1
unfolding IsMinLen
filled_from re n h lt hay i j m = let long = h hay i j m in grind (arith, nat_tests)
