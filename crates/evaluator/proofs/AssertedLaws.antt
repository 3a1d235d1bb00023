-- Laws of keywords that look at their own value and the instance alone.
use Rattle.std.proofs.Common.{◌≡◌, ℕ, [], ◌∷◌, ◌++◌, ◌∙◌, map, Bool, true, false, Some, None, codes, refl, sym, ap, append-nil}
use Rattle.std.specs.List.{list_all}
use Rattle.std.proofs.Math.Bool.{and-true}
use Rattle.definitions.specs.Values.{Text, Value, string, get}
use Rattle.definitions.specs.Keywords as table
use Rattle.definitions.specs.Keywords.{Meaning, asserts}
use Rattle.definitions.specs.Assertions as meaning
use Rattle.definitions.specs.Assertions.{holds}
use Rattle.definitions.specs.Applied.{Application, Outcome, Rules, keyword_applications}
use Rattle.definitions.specs.Outcomes.{Use, unit, use_of, uses_by_keyword}
use Rattle.assertions.specs.AssertionView.{assertion_in}
use Rattle.linker.specs.declared.linked.Linked.{Linked}
use Rattle.keywords.specs.Rows.{row_of}
use Rattle.keywords.specs.declared.keyword.Keyword.{Keyword}
use Rattle.keywords.specs.declared.group.Group.TheVariants.{One}
use Rattle.keyword_plans.specs.ObjectApplications.{linked_rules}
use Rattle.evaluation_log.specs.Notes.{error_texts, no_notes, uses_notes}
use Rattle.evaluator.specs.Rounds.{group_uses, linked_outcome}
use Rattle.evaluation_log.proofs.LogLaws.{same_notes}

meaning_is : (m : Meaning) (x : meaning.Assertion) → Some x ≡ assertion_in m → m ≡ asserts x
meaning_is (asserts y) x e = let same : x ≡ y = cc in ap asserts (sym same)
meaning_is _ x e = absurd (cc)

-- the use of a keyword of this name and value that makes this assertion
abbrev pub assertion_use : Text → meaning.Assertion → Value → Application → Use
assertion_use name x v a = record { keyword = name; passes = holds x v a.instance; outcomes = []; names = []; indexes = []; annotation = None; annotates = true }

used_alone : (rules : Rules) (run : Application → Outcome) (a : Application) (k : table.Keyword) (v : Value) (x : meaning.Assertion) → k.meaning ≡ asserts x
    → uses_by_keyword rules run [] [] a k (Some v) ≡ assertion_use k.name x v a ∷ []
used_alone rules run a k v x e =
    ap (λ m. use_of rules run a k.name m v (map (λ e. (e.0, run e.1)) (keyword_applications rules run [] [] a k.name m v)) ∷ []) e

module _ (l : Linked) (left : ℕ) (a : Application) (k : Keyword) where
  pub asserted_use : (v : Value) (x : meaning.Assertion) → Some x ≡ assertion_in (row_of k).meaning → get (row_of k).name a.schema.value ≡ Some v
      → group_uses l left a (One k) ≡ assertion_use (row_of k).name x v a ∷ []
  asserted_use v x e got =
      append-nil (uses_by_keyword (linked_rules l) (linked_outcome l left) [] [] a (row_of k) (get (row_of k).name a.schema.value))
      ∙ ap (uses_by_keyword (linked_rules l) (linked_outcome l left) [] [] a (row_of k)) got
      ∙ used_alone (linked_rules l) (linked_outcome l left) a (row_of k) v x (meaning_is (row_of k).meaning x e)

  pub absent_use : get (row_of k).name a.schema.value ≡ None → group_uses l left a (One k) ≡ []
  absent_use gone = rw gone refl

-- ---- whether it passes, and what it notes
pub alone_valid : (name : Text) (x : meaning.Assertion) (v : Value) (a : Application) (b : Bool) → holds x v a.instance ≡ b → b ≡ list_all (λ u. u.passes) (assertion_use name x v a ∷ [])
alone_valid name x v a b e = sym (and-true (holds x v a.instance) ∙ e)

pub passing_notes : (name : Text) (x : meaning.Assertion) (v : Value) (a : Application) → holds x v a.instance ≡ true → uses_notes a (assertion_use name x v a ∷ []) ≡ no_notes
passing_notes name x v a e = same_notes (rw e refl) (rw e refl) refl refl refl

pub failing_notes : (name : Text) (x : meaning.Assertion) (v : Value) (a : Application) → holds x v a.instance ≡ false
    → uses_notes a (assertion_use name x v a ∷ []) ≡ record no_notes { errors = error_texts (unit a name (string (name ++ codes " is not met")) ∷ []) }
failing_notes name x v a e = same_notes (rw e refl) (rw e refl) refl refl refl
