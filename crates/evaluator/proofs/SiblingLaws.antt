-- Laws of keywords that ask what a keyword beside them found.
use Rattle.std.proofs.Common.{◌≡◌, ◌≤◌, ℕ, ◌+◌, List, [], ◌∷◌, ◌++◌, map, cond, Bool, true, false, nat_lt, Option, Some, None, IfSome, length, option_map, unwrap_or, refl, sym, ap, subst, ◌∙◌, append-nil, codes, fold, count_by}
use Rattle.std.proofs.lemmas.List.{length-map}
use Rattle.std.proofs.lemmas.List.Sums.{count_by-le-length}
use Rattle.definitions.specs.Evaluated.{pass_count}
use Rattle.definitions.specs.Values.{Text, Value, elements, get, members, null}
use Rattle.definitions.specs.Keywords.{Meaning, consequence, looks_at_evaluated}
use Rattle.definitions.specs.Applied.{Application, Outcome, Part, Rules, at_items, in_place}
use Rattle.definitions.specs.Outcomes.{Use, uses_by_keyword, uses_of}
use Rattle.linker.specs.declared.linked.Linked.{Linked}
use Rattle.keywords.specs.Rows.{row_of}
use Rattle.applicators.specs.Applications.{planned_members}
use Rattle.keyword_plans.specs.Applications.{named_count}
use Rattle.keyword_plans.specs.ObjectApplications.{linked_rules}
use Rattle.keywords.specs.declared.keyword.Keyword.{Keyword}
use Rattle.keywords.specs.declared.keyword.Keyword.TheVariants.{If, Then, Else, Contains, MinContains, MaxContains, Properties}
use Rattle.evaluator.specs.Findings.{passing_first}
use Rattle.keyword_plans.specs.Plans.{is_consequence, counts_contained, takes_others}
use Rattle.evaluation_log.specs.Notes.{Notes, notes_of_both, uses_notes}
use Rattle.evaluator.specs.Rounds.{Knows, group_uses, indexes_since, keyword_uses, linked_outcome, names_since, two_uses, uses_since}
use Rattle.evaluator.specs.declared.siblings.Siblings.{Siblings}
use Rattle.keywords.specs.declared.group.Group.TheVariants.{One, Conditional, Counted}
use Rattle.evaluation_log.specs.declared.log.Before.{Before}
use Rattle.evaluator.proofs.AloneLaws.{same_used}

-- ---- what `if` and `contains` found
tells : (b : Bool) → nat_lt 0 (0 + cond b 1 0) ≡ b
tells true = refl
tells false = refl

condition_told : (rules : Rules) (run : Application → Outcome) (names : List Text) (indexes : List ℕ) (a : Application) (o : Option Value)
    → option_map (λ n. nat_lt 0 n) (passing_first (uses_by_keyword rules run names indexes a (row_of If) o))
    ≡ option_map (λ (p : Outcome). p.valid) (option_map (λ v. run (in_place a (codes "if" ∷ []) v).1) o)
condition_told rules run names indexes a None = refl
condition_told rules run names indexes a (Some v) = ap Some (tells (run (in_place a (codes "if" ∷ []) v).1).valid)

same_count : (run : Application → Outcome) (es : List (Part × Application)) (n : ℕ)
    → fold (λ (m : ℕ) (e : Part × Outcome). m + cond e.1.valid 1 0) n (map (λ (e : Part × Application). (e.0, run e.1)) es)
    ≡ fold (λ (m : ℕ) (o : Outcome). m + cond o.valid 1 0) n (map (λ (e : Part × Application). run e.1) es)
same_count run [] n = refl
same_count run (e ∷ es) n = same_count run es (n + cond (run e.1).valid 1 0)

containing_told : (rules : Rules) (run : Application → Outcome) (names : List Text) (indexes : List ℕ) (a : Application) (o : Option Value)
    → passing_first (uses_by_keyword rules run names indexes a (row_of Contains) o)
    ≡ option_map (count_by (λ (p : Outcome). p.valid)) (option_map (λ v. map (λ (e : Part × Application). run e.1) (at_items a (codes "contains") v 0 (elements a.instance))) o)
containing_told rules run names indexes a None = refl
containing_told rules run names indexes a (Some v) = ap Some (same_count run (at_items a (codes "contains") v 0 (elements a.instance)) 0)

-- ---- what a keyword knows then
pub knows_nothing : (l : Linked) (left : ℕ) (a : Application) (m : Meaning) (siblings : Siblings) → is_consequence m ≡ false → counts_contained m ≡ false
    → takes_others m ≡ false → Knows l left a m siblings
knows_nothing l left a m siblings e f g = record {
  condition = λ is. absurd (let h = sym e ∙ is in cc);
  containing = λ is. absurd (let h = sym f ∙ is in cc);
  named = λ is. absurd (let h = sym g ∙ is in cc);
}

pub knows_condition : (l : Linked) (left : ℕ) (a : Application) (passing : Option ℕ) (wanted : Bool) (before : Before) (n : Notes) (siblings : Siblings)
    → passing ≡ passing_first (uses_since l left a If before n) → siblings.condition ≡ option_map (λ n. nat_lt 0 n) passing → Knows l left a (consequence wanted) siblings
knows_condition l left a passing wanted before n siblings told is = record {
  condition =
      λ t. sym (is ∙ ap (option_map (λ n. nat_lt 0 n)) told
      ∙ condition_told (linked_rules l) (linked_outcome l left) (names_since before n) (indexes_since before n) a (get (codes "if") a.schema.value));
  containing = λ t. absurd (let g : false ≡ true = t in cc);
  named = λ t. absurd (let g : false ≡ true = t in cc);
}

pub knows_containing : (l : Linked) (left : ℕ) (a : Application) (passing : Option ℕ) (m : Meaning) (before : Before) (n : Notes) (siblings : Siblings)
    → passing ≡ passing_first (uses_since l left a Contains before n) → siblings.containing ≡ passing → is_consequence m ≡ false → takes_others m ≡ false
    → Knows l left a m siblings
knows_containing l left a passing m before n siblings told is apart other = record {
  condition = λ t. absurd (let g = sym apart ∙ t in cc);
  named = λ t. absurd (let g = sym other ∙ t in cc);
  containing =
      λ t. sym (is ∙ told
      ∙ containing_told (linked_rules l) (linked_outcome l left) (names_since before n) (indexes_since before n) a (get (codes "contains") a.schema.value));
}

-- ---- how many members `properties` names
named_most : (rules : Rules) (run : Application → Outcome) (a : Application) (o : Option Value) → get (codes "properties") a.schema.value ≡ o
    → IfSome (passing_first (uses_by_keyword rules run [] [] a (row_of Properties) o ++ [])) (λ passing. passing ≤ named_count a)
named_most rules run a None e = tt
named_most rules run a (Some v) e =
    let es = planned_members (codes "properties") a (members v) in
    let os = map (λ (p : Part × Application). (p.0, run p.1)) es in
    let fewer : pass_count os ≤ length os = count_by-le-length (λ (p : Part × Outcome). p.1.valid) os in
    let same : length os ≡ length es = length-map es (λ (p : Part × Application). (p.0, run p.1)) in
    let there : length es ≡ named_count a = ap (λ w. length (planned_members (codes "properties") a (members (unwrap_or w null)))) (sym e) in
    subst (λ n. pass_count os ≤ n) (same ∙ there) fewer

pub named_told : (l : Linked) (left : ℕ) (a : Application) (passing : Option ℕ) → passing ≡ passing_first (group_uses l left a (One Properties))
    → IfSome passing (λ n. n ≤ named_count a)
named_told l left a passing told =
    subst (λ o. IfSome o (λ n. n ≤ named_count a)) (sym told) (named_most (linked_rules l) (linked_outcome l left) a (get (codes "properties") a.schema.value) refl)

-- ---- three keywords, none of which sees what others evaluated
three_uses : (l : Linked) (left : ℕ) (a : Application) (first second third : Keyword) (before : Before) (n m : Notes)
    → looks_at_evaluated (row_of first).meaning ≡ false → looks_at_evaluated (row_of second).meaning ≡ false → looks_at_evaluated (row_of third).meaning ≡ false
    → uses_since l left a first before n ++ two_uses l left a second third before m
    ≡ uses_of (linked_rules l) (linked_outcome l left) (row_of first ∷ row_of second ∷ row_of third ∷ []) [] [] a
three_uses l left a first second third before n m e f g =
    let us = keyword_uses l left a first [] [] in
    let vs = keyword_uses l left a second [] [] in
    let ws = keyword_uses l left a third [] [] in
    let last = notes_of_both m (uses_notes a (uses_since l left a second before m)) in
    let one : uses_since l left a first before n ≡ us =
    same_used (linked_rules l) (linked_outcome l left) (names_since before n) (indexes_since before n) a (row_of first) (get (row_of first).name a.schema.value) e in
    let two : uses_since l left a second before m ≡ vs =
    same_used (linked_rules l) (linked_outcome l left) (names_since before m) (indexes_since before m) a (row_of second) (get (row_of second).name a.schema.value) f in
    let three : uses_since l left a third before last ≡ ws =
    same_used (linked_rules l) (linked_outcome l left) (names_since before last) (indexes_since before last) a (row_of third) (get (row_of third).name a.schema.value) g in
    ap (λ (xs : List Use). xs ++ (uses_since l left a second before m ++ uses_since l left a third before last)) one
    ∙ ap (λ (xs : List Use). us ++ (xs ++ uses_since l left a third before last)) two ∙ ap (λ (xs : List Use). us ++ (vs ++ xs)) (three ∙ sym (append-nil ws))

pub conditional_uses : (l : Linked) (left : ℕ) (a : Application) (before : Before) (n m : Notes)
    → uses_since l left a If before n ++ two_uses l left a Then Else before m ≡ group_uses l left a Conditional
conditional_uses l left a before n m = three_uses l left a If Then Else before n m refl refl refl

pub counted_uses : (l : Linked) (left : ℕ) (a : Application) (before : Before) (n m : Notes)
    → uses_since l left a Contains before n ++ two_uses l left a MinContains MaxContains before m ≡ group_uses l left a Counted
counted_uses l left a before n m = three_uses l left a Contains MinContains MaxContains before n m refl refl refl
