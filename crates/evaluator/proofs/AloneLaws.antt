-- Laws of keywords that ask for nothing that keywords beside say or evaluate.
use Rattle.std.proofs.Common.{◌≡◌, ℕ, List, [], ◌∷◌, map, Bool, true, false, not, ◌||◌, Option, Some, None, ◌≤◌, refl, sym, ap, ap₂, ◌∙◌, append-nil, subst}
use Rattle.definitions.specs.Values.{Text, Value, get}
use Rattle.definitions.specs.Keywords as table
use Rattle.definitions.specs.Keywords.{Meaning, looks_at_evaluated, asserts, matches_pattern, refers, refers_dynamically, all_of, any_of, one_of, negation, condition, consequence, dependent_schemas, prefix_items, items, contains, min_contains, max_contains, properties, pattern_properties, additional_properties, property_names, unevaluated_items, unevaluated_properties, declares}
use Rattle.definitions.specs.Applied.{Application, Outcome, Rules, keyword_applications}
use Rattle.definitions.specs.Outcomes.{uses_by_keyword, use_of}
use Rattle.linker.specs.declared.linked.Linked.{Linked}
use Rattle.keywords.specs.Rows.{row_of}
use Rattle.keyword_plans.specs.Applications.{named_count}
use Rattle.keyword_plans.specs.ObjectApplications.{linked_rules}
use Rattle.keywords.specs.declared.keyword.Keyword.{Keyword}
use Rattle.keyword_plans.specs.Plans.{is_consequence, counts_contained}
use Rattle.evaluator.specs.Groups.{stands_alone}
use Rattle.evaluation_log.specs.Notes.{Notes}
use Rattle.evaluator.specs.Rounds.{Knows, group_uses, linked_outcome, uses_since, names_since, indexes_since}
use Rattle.evaluator.specs.declared.siblings.Siblings.{Siblings}
use Rattle.keywords.specs.declared.group.Group.TheVariants.{One}
use Rattle.evaluation_log.specs.declared.log.Before.{Before}

same_applied : (rules : Rules) (run : Application → Outcome) (names : List Text) (indexes : List ℕ) (a : Application) (k : Text) (m : Meaning) (v : Value)
    → looks_at_evaluated m ≡ false → keyword_applications rules run names indexes a k m v ≡ keyword_applications rules run [] [] a k m v
same_applied rules run names indexes a k (asserts x) v e = refl
same_applied rules run names indexes a k matches_pattern v e = refl
same_applied rules run names indexes a k refers v e = refl
same_applied rules run names indexes a k refers_dynamically v e = refl
same_applied rules run names indexes a k all_of v e = refl
same_applied rules run names indexes a k any_of v e = refl
same_applied rules run names indexes a k one_of v e = refl
same_applied rules run names indexes a k negation v e = refl
same_applied rules run names indexes a k condition v e = refl
same_applied rules run names indexes a k (consequence b) v e = refl
same_applied rules run names indexes a k dependent_schemas v e = refl
same_applied rules run names indexes a k prefix_items v e = refl
same_applied rules run names indexes a k items v e = refl
same_applied rules run names indexes a k contains v e = refl
same_applied rules run names indexes a k min_contains v e = refl
same_applied rules run names indexes a k max_contains v e = refl
same_applied rules run names indexes a k properties v e = refl
same_applied rules run names indexes a k pattern_properties v e = refl
same_applied rules run names indexes a k additional_properties v e = refl
same_applied rules run names indexes a k property_names v e = refl
same_applied rules run names indexes a k unevaluated_items v e = absurd (cc)
same_applied rules run names indexes a k unevaluated_properties v e = absurd (cc)
same_applied rules run names indexes a k declares v e = refl

-- names and indexes are looked at by those alone that look at what others evaluated
pub same_looked : (rules : Rules) (run : Application → Outcome) (ns ms : List Text) (is js : List ℕ) (a : Application) (k : Text) (m : Meaning) (v : Value)
    → (looks_at_evaluated m ≡ true → ns ≡ ms) → (looks_at_evaluated m ≡ true → is ≡ js)
    → keyword_applications rules run ns is a k m v ≡ keyword_applications rules run ms js a k m v
same_looked rules run ns ms is js a k m v e f = told (looks_at_evaluated m) refl
  where
    told : (b : Bool) → looks_at_evaluated m ≡ b → keyword_applications rules run ns is a k m v ≡ keyword_applications rules run ms js a k m v
    told true looks = ap₂ (λ names indexes. keyword_applications rules run names indexes a k m v) (e looks) (f looks)
    told false looks = same_applied rules run ns is a k m v looks ∙ sym (same_applied rules run ms js a k m v looks)

-- it doesn't matter to them what others evaluated
pub same_used : (rules : Rules) (run : Application → Outcome) (names : List Text) (indexes : List ℕ) (a : Application) (k : table.Keyword) (o : Option Value)
    → looks_at_evaluated k.meaning ≡ false → uses_by_keyword rules run names indexes a k o ≡ uses_by_keyword rules run [] [] a k o
same_used rules run names indexes a k None e = refl
same_used rules run names indexes a k (Some v) e =
    ap (λ es. use_of rules run a k.name k.meaning v (map (λ e. (e.0, run e.1)) es) ∷ []) (same_applied rules run names indexes a k.name k.meaning v e)

first_not : (p q r : Bool) → not (p || (q || r)) ≡ true → p ≡ false
first_not true q r h = cc
first_not false q r h = refl

second_not : (p q r : Bool) → not (p || (q || r)) ≡ true → q ≡ false
second_not true q r h = absurd (cc)
second_not false true r h = cc
second_not false false r h = refl

third_not : (p q r : Bool) → not (p || (q || r)) ≡ true → r ≡ false
third_not true q r h = absurd (cc)
third_not false true r h = absurd (cc)
third_not false false true h = cc
third_not false false false h = refl

never_both : (b : Bool) → b ≡ false → b ≡ true → false ≡ true
never_both b e f = sym e ∙ f

pub alone_knows : (l : Linked) (left : ℕ) (a : Application) (k : Keyword) (named : ℕ) (siblings : Siblings) → stands_alone (One k) ≡ true
    → siblings ≡ record { condition = None; containing = None; named = named } → named ≤ named_count a → Knows l left a (row_of k).meaning siblings
alone_knows l left a k named siblings alone is most =
    let m = (row_of k).meaning in
    record {
      condition =
          λ t. absurd (let e = never_both (is_consequence m) (first_not (is_consequence m) (counts_contained m) (looks_at_evaluated m) alone) t in cc);
      containing =
          λ t. absurd (let e = never_both (counts_contained m) (second_not (is_consequence m) (counts_contained m) (looks_at_evaluated m) alone) t in cc);
      named = λ t. subst (λ (b : Siblings). b.named ≤ named_count a) (sym is) most;
    }

pub alone_uses : (l : Linked) (left : ℕ) (a : Application) (k : Keyword) (before : Before) (n : Notes) → stands_alone (One k) ≡ true
    → uses_since l left a k before n ≡ group_uses l left a (One k)
alone_uses l left a k before n alone =
    let m = (row_of k).meaning in
    same_used (linked_rules l) (linked_outcome l left) (names_since before n) (indexes_since before n) a (row_of k) (get (row_of k).name a.schema.value)
    (third_not (is_consequence m) (counts_contained m) (looks_at_evaluated m) alone)
    ∙ sym (append-nil (uses_by_keyword (linked_rules l) (linked_outcome l left) [] [] a (row_of k) (get (row_of k).name a.schema.value)))
