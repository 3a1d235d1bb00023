-- Members that no keyword beside takes.
use Rattle.std.proofs.Common.{◌≡◌, List, [], ◌∷◌, ◌||◌, false, is_some, codes, refl, sym, ap, ◌∙◌, Bor, subst}
use Rattle.std.specs.List.{list_any}
use Rattle.definitions.specs.Values.{Text, Value, entry, members}
use Rattle.definitions.specs.Patterns.{has_match}
use Rattle.definitions.specs.Applied.{Application, named, at_part, beside, is_taken}
use Rattle.linker.specs.declared.linked.Linked.{Linked}
use Rattle.keyword_plans.specs.Applications.{planned_others}
use Rattle.keyword_plans.specs.ObjectApplications.{linked_rules}
use Rattle.keyword_plans.specs.Beside.{AreTakers, StandsBeside}
use Rattle.keyword_plans.specs.declared.planning.others.PropertyKeywords.{PropertyKeywords}
use Rattle.keyword_plans.specs.declared.planning.others.Takers.{Takers}

-- a name that `properties` beside lacks is taken by patterns alone
pub taken_by_patterns : (l : Linked) (a : Application) (name : Text) (schemas patterns : List (Text × Value))
    → schemas ≡ members (beside a (codes "properties")) → patterns ≡ members (beside a (codes "patternProperties"))
    → is_some (entry name schemas) ≡ false → list_any (λ p. has_match p.0 name) patterns ≡ is_taken (linked_rules l) a name
taken_by_patterns l a name schemas patterns e f none =
    ap (list_any (λ (p : Text × Value). has_match p.0 name)) f
    ∙ ap (λ b. b || list_any (λ (p : Text × Value). has_match p.0 name) (members (beside a (codes "patternProperties")))) (sym none ∙ ap (λ ms. is_some (entry name ms)) e)

pub others-here : (l : Linked) (k : Text) (a : Application) (v : Value) (name : Text) (x : Value) (ms : List (Text × Value)) → is_taken (linked_rules l) a name ≡ false
    → planned_others l k a v ((name, x) ∷ ms) ≡ at_part a (k ∷ []) v (named name) x ∷ planned_others l k a v ms
others-here l k a v name x ms free = rw free refl

-- the same documents
pub same_beside : (l m : Bor Linked) (b : PropertyKeywords) (a : Application) → l ≡ m → StandsBeside m.now b a → StandsBeside l.now b a
same_beside l m b a e stands = subst (λ (k : Bor Linked). StandsBeside k.now b a) (sym e) stands

pub same_takers : (l m : Bor Linked) (t : Takers) (a : Application) → l ≡ m → AreTakers m.now t a → AreTakers l.now t a
same_takers l m t a e take = subst (λ (k : Bor Linked). AreTakers k.now t a) (sym e) take

pub taken-same : (l m : Bor Linked) (a : Application) (name : Text) → l ≡ m → is_taken (linked_rules m.now) a name ≡ is_taken (linked_rules l.now) a name
taken-same l m a name e = ap (λ (k : Bor Linked). is_taken (linked_rules k.now) a name) (sym e)
