-- The patterns of a schema of the linked documents.
use Rattle.std.proofs.Common.{◌≡◌, List, [], ◌∷◌, ◌++◌, map, Option, Some, None, option_map, option_and_then, unwrap_or, codes, refl, sym, ap, ◌∙◌, append_assoc, subst, arith, Contains}
use Rattle.std.proofs.lemmas.List.Elements.{Contains-append_left, Contains-append_right}
use Rattle.std.specs.List.{AllByRecursion}
use Rattle.definitions.specs.Values.{Text, Value, null, boolean, integer, string, array, object, as_string, get, text_at, members}
use Rattle.definitions.specs.Evaluated.{pattern_holds}
use Rattle.definitions.specs.Patterns.{has_match}
use Rattle.definitions.specs.Searches.{patterns_of}
use Rattle.definitions.specs.Schemas.{Schema}
use Rattle.definitions.specs.Lists.{option_list}
use Rattle.definitions.specs.Applied.{Application, beside}
use Rattle.keyword_plans.specs.ObjectApplications.{Shows}
use Rattle.keyword_plans.specs.declared.application.ObjectApplication.{ObjectApplication}
use Rattle.keyword_plans.specs.Applications.{ArePatternsOf, planned_pattern}

contains-first : {Y : Type 0} (y : Y) (ys : List Y) → Contains (y ∷ ys) y
contains-first y ys = (0, omega arith, refl)

all_in : {X Y : Type 0} (f : X → Y) (before : List Y) (xs : List X) → AllByRecursion (λ x. Contains (before ++ map f xs) (f x)) xs
all_in f before [] = tt
all_in f before (x ∷ xs) = (
  Contains-append_right before (f x ∷ map f xs) (f x) (contains-first (f x) (map f xs)),
  subst (λ ys. AllByRecursion (λ z. Contains ys (f z)) xs) (append_assoc before (f x ∷ []) (map f xs)) (all_in f (before ++ f x ∷ []) xs),
)

pub patterns-of : (s : Schema) (v : Value) → get (codes "patternProperties") s.value ≡ Some v → AllByRecursion (λ p. Contains (patterns_of s) p.0) (members v)
patterns-of s v e =
    subst
    (λ (o : Option Value). AllByRecursion (λ p. Contains (option_list (text_at (codes "pattern") s.value) ++ unwrap_or (option_map (λ v. map (λ m. m.0) (members v)) o) []) p.0) (members v))
    (sym e) (all_in (λ (m : Text × Value). m.0) (option_list (text_at (codes "pattern") s.value)) (members v))

pub site_patterns : (application : ObjectApplication) (a : Application) (v : Value) → Shows application a → get (codes "patternProperties") a.schema.value ≡ Some v
    → ArePatternsOf application.linked.now application.resource.now a.schema (members v)
site_patterns application a v shows e = record { inside = shows.inside; resource = shows.resource; patterns = patterns-of a.schema v e }

-- where the keyword may be absent
beside-of : (s : Schema) (o : Option Value) → get (codes "patternProperties") s.value ≡ o → AllByRecursion (λ p. Contains (patterns_of s) p.0) (members (unwrap_or o null))
beside-of s None e = tt
beside-of s (Some v) e = patterns-of s v e

pub patterns_beside : (application : ObjectApplication) (a : Application) → Shows application a → ArePatternsOf application.linked.now application.resource.now a.schema (members (beside a (codes "patternProperties")))
patterns_beside application a shows = record { inside = shows.inside; resource = shows.resource; patterns = beside-of a.schema (get (codes "patternProperties") a.schema.value) refl }

-- ---- what stands under `pattern`
pub string-of : (v : Value) (p : Text) → Some p ≡ as_string v → v ≡ string p
string-of null p e = cc
string-of (boolean b) p e = cc
string-of (integer z) p e = cc
string-of (string s) p e = cc
string-of (array vs) p e = cc
string-of (object ms) p e = cc

pub pattern-of : (s : Schema) (v : Value) (p : Text) → get (codes "pattern") s.value ≡ Some v → Some p ≡ as_string v → Contains (patterns_of s) p
pattern-of s v p e f =
    Contains-append_left (option_list (text_at (codes "pattern") s.value)) _ p
    (subst (λ (o : Option Text). Contains (option_list o) p) (f ∙ sym (ap (option_and_then as_string) e)) (contains-first p []))

pub pattern_holds-strings : (v x : Value) (p s : Text) → Some p ≡ as_string v → Some s ≡ as_string x → has_match p s ≡ pattern_holds has_match v x
pattern_holds-strings v x p s e f = rw (string-of v p e, string-of x s f) refl

-- ---- where there are none
pub matched-none : (k : Text) (a : Application) (ms : List (Text × Value)) → planned_pattern k a [] ms ≡ []
matched-none k a [] = refl
matched-none k a (m ∷ ms) = matched-none k a ms
