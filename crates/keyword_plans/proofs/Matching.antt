-- Patterns, one after another.
use Rattle.std.proofs.Common.{◌≡◌, List, ◌∷◌, sym, subst, Contains, Bor}
use Rattle.std.specs.List.{AllByRecursion}
use Rattle.definitions.specs.Values.{Text, Value}
use Rattle.definitions.specs.Searches.{patterns_of}
use Rattle.definitions.specs.Schemas.{Schema}
use Rattle.definitions.specs.Applied.{Application}
use Rattle.linker.specs.LinkedDocuments.{linked_schemas}
use Rattle.linker.specs.declared.linked.Linked.{Linked}
use Rattle.keyword_plans.specs.ObjectApplications.{Shows}
use Rattle.keyword_plans.specs.declared.application.ObjectApplication.{ObjectApplication}
use Rattle.keyword_plans.specs.Applications.{ArePatternsOf}

pub first_pattern : (l : Linked) (uri : Text) (s : Schema) (left : List (Text × Value)) (p : Text × Value) (rest : List (Text × Value)) → left ≡ p ∷ rest
    → ArePatternsOf l uri s left → Contains (patterns_of s) p.0
first_pattern l uri s left p rest e are = (subst (λ ps. AllByRecursion (λ p. Contains (patterns_of s) p.0) ps) e are.patterns).0

pub rest_patterns : (l : Linked) (uri : Text) (s : Schema) (left : List (Text × Value)) (p : Text × Value) (rest : List (Text × Value)) → left ≡ p ∷ rest
    → ArePatternsOf l uri s left → ArePatternsOf l uri s rest
rest_patterns l uri s left p rest e are = record { inside = are.inside; resource = are.resource; patterns = (subst (λ ps. AllByRecursion (λ p. Contains (patterns_of s) p.0) ps) e are.patterns).1 }

-- ---- the same documents
pub same_inside : (l m : Bor Linked) (s : Schema) → l ≡ m → Contains (linked_schemas m.now) s → Contains (linked_schemas l.now) s
same_inside l m s e inside = subst (λ (k : Bor Linked). Contains (linked_schemas k.now) s) (sym e) inside

pub same_patterns : (l m : Bor Linked) (uri : Text) (s : Schema) (ps : List (Text × Value)) → l ≡ m → ArePatternsOf m.now uri s ps → ArePatternsOf l.now uri s ps
same_patterns l m uri s ps e are = subst (λ (k : Bor Linked). ArePatternsOf k.now uri s ps) (sym e) are

pub same_shown : (l : Bor Linked) (application : ObjectApplication) (a : Application) → l ≡ application.linked → Shows application a → Contains (linked_schemas l.now) a.schema
same_shown l application a e shows = same_inside l application.linked a.schema e shows.inside
