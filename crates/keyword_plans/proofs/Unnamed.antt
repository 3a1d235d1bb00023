-- Members whose names aren't among those of schemas.
use Rattle.std.proofs.Common.{◌≡◌, List, [], ◌∷◌, ◌++◌, ◌||◌, Bool, not, cond, filter, Option, Some, None, is_some, codes, refl, sym, ap, ap₂, ◌∙◌}
use Rattle.std.proofs.Math.Bool.{or-false}
use Rattle.std.specs.List.{list_any}
use Rattle.definitions.specs.Values.{Text, Value, entry, members}
use Rattle.definitions.specs.Patterns.{has_match}
use Rattle.definitions.specs.Applied.{Application, Part, named, at_part, at_members, beside, is_taken}
use Rattle.linker.specs.declared.linked.Linked.{Linked}
use Rattle.keyword_plans.specs.Applications.{planned_others, planned_unnamed, at_unnamed}
use Rattle.keyword_plans.specs.ObjectApplications.{linked_rules}

module _ (k : Text) (a : Application) (v : Value) where
  one_more : (m : Text × Value) (o : Option Value) (b : Bool) (us : List (Part × Application)) (ms : List (Text × Value)) → b ≡ is_some o → us ≡ at_members a k v ms
      → at_unnamed a k v m o ++ us ≡ at_members a k v (cond (not b) (m ∷ ms) ms)
  one_more m None b us ms e h = rw e (ap (λ ys. at_part a (k ∷ []) v (named m.0) m.1 ∷ ys) h)
  one_more m (Some s) b us ms e h = rw e h

  -- where there are no patterns, these are the others
  pub unnamed-others : (l : Linked) (ss ms : List (Text × Value)) → ss ≡ members (beside a (codes "properties")) → [] ≡ members (beside a (codes "patternProperties"))
      → planned_unnamed k a v ss ms ≡ planned_others l k a v ms
  unnamed-others l ss [] e f = refl
  unnamed-others l ss (m ∷ ms) e f =
      let taken : is_taken (linked_rules l) a m.0 ≡ is_some (entry m.0 ss) =
      ap₂ (λ xs ps. is_some (entry m.0 xs) || list_any (λ (p : Text × Value). has_match p.0 m.0) ps) (sym e) (sym f) ∙ or-false (is_some (entry m.0 ss)) in
      one_more m (entry m.0 ss) (is_taken (linked_rules l) a m.0) (planned_unnamed k a v ss ms) (filter (λ m. not (is_taken (linked_rules l) a m.0)) ms) taken (unnamed-others l ss ms e f)
