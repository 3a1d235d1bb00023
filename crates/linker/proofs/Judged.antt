-- References with a target and without, among documents with distinct resource URIs.
use Rattle.std.proofs.Common.{◌≡◌, List, [], ◌∷◌, ◌++◌, Option, Some, None, false, cond, is_some, is_none, filter, flat_map, Bool, IfOk, Result, Ok, Err, Contains, find, sym, subst, refl, ap, ◌∙◌, append_assoc, append-nil}
use Rattle.std.proofs.lemmas.List.Elements.{filter-append}
use Rattle.definitions.specs.Values.{Text, same_text}
use Rattle.definitions.specs.Lists.{has_repeat}
use Rattle.definitions.specs.Faults.{Fault}
use Rattle.definitions.specs.Fragments.{Fragment}
use Rattle.definitions.specs.Uris.{without_fragment}
use Rattle.definitions.specs.Schemas.{Schema, Document, schemas_of, table_of}
use Rattle.definitions.specs.Scanning.{resource_uris}
use Rattle.definitions.specs.Targets.{target, target_in, fragment_of}
use Rattle.definitions.specs.Reach.{holds_resource, references_in, least, lesser}
use Rattle.linker.specs.Missing.{missing_in}
use Rattle.linker.proofs.Least.{least_more}
use Rattle.linker.proofs.Tables.{IsHolder, found_holder, no_holder, target_in_holder, target_nowhere}

in_holder : (ds : List Document) (uri : Text) (d : Document) (f : Result Fragment Fault) → IsHolder ds uri d → target_in (table_of ds) uri f ≡ target_in (schemas_of d.base d.value) uri f
in_holder ds uri d (Ok f) h = target_in_holder ds uri d f h
in_holder ds uri d (Err e) h = refl

nowhere : (ds : List Document) (uri : Text) (f : Result Fragment Fault) → ((d : Document) → Contains ds d → holds_resource uri d ≡ false) → target_in (table_of ds) uri f ≡ None
nowhere ds uri (Ok f) none = target_nowhere ds uri f none
nowhere ds uri (Err e) none = refl

pub target_where_held : (ds : List Document) (reference : Text) (d : Document) → has_repeat same_text (resource_uris (table_of ds)) ≡ false → find (holds_resource (without_fragment reference)) ds ≡ Some d
    → target (table_of ds) reference ≡ target_in (schemas_of d.base d.value) (without_fragment reference) (fragment_of reference)
target_where_held ds reference d distinct found =
    in_holder ds (without_fragment reference) d (fragment_of reference) (found_holder ds (without_fragment reference) d distinct found)

pub no_target : (ds : List Document) (reference : Text) → find (holds_resource (without_fragment reference)) ds ≡ None → target (table_of ds) reference ≡ None
no_target ds reference none = nowhere ds (without_fragment reference) (fragment_of reference) (no_holder ds (without_fragment reference) none)

-- ---- what is told of one schema is told of the same one
pub carried : {E : Type 0} (r : Result Bool E) (o p : Option Schema) → o ≡ p → IfOk r (λ b. b ≡ is_some o) → IfOk r (λ b. b ≡ is_some p)
carried r o p e h = subst (λ x. IfOk r (λ b. b ≡ is_some x)) e h

-- ---- one reference more
judged_at : (ts : List Text) (r : Text) (o : Option Schema) → least (ts ++ cond (is_none o) (r ∷ []) []) ≡ cond (is_some o) (least ts) (Some (lesser r (least ts)))
judged_at ts r None = least_more ts r
judged_at ts r (Some s) = ap least (append-nil ts)

pub judged_more : (goal_of : Text → Option Schema) (before rs : List Text) (r : Text)
    → least (before ++ filter (λ x. is_none (goal_of x)) (rs ++ r ∷ []))
    ≡ cond (is_some (goal_of r)) (least (before ++ filter (λ x. is_none (goal_of x)) rs)) (Some (lesser r (least (before ++ filter (λ x. is_none (goal_of x)) rs))))
judged_more goal_of before rs r =
    ap (λ fs. least (before ++ fs)) (filter-append (λ x. is_none (goal_of x)) rs (r ∷ []))
    ∙ ap least (sym (append_assoc before (filter (λ x. is_none (goal_of x)) rs) (filter (λ x. is_none (goal_of x)) (r ∷ []))))
    ∙ judged_at (before ++ filter (λ x. is_none (goal_of x)) rs) r (goal_of r)

-- ---- what is missing, document by document
pub missing_by_documents : (all ds : List Document) → filter (λ r. is_none (target (table_of all) r)) (flat_map references_in ds) ≡ flat_map (missing_in all) ds
unfolding missing_in
missing_by_documents all [] = refl
missing_by_documents all (d ∷ ds) =
    filter-append (λ r. is_none (target (table_of all) r)) (references_in d) (flat_map references_in ds)
    ∙ ap (λ ts. missing_in all d ++ ts) (missing_by_documents all ds)
