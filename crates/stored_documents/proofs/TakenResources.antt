-- Resource URIs that another document holds, among documents with distinct resource URIs.
use Rattle.std.proofs.Common.{◌≡◌, List, Bool, true, false, not, Some, None, find, Contains, sym, refl, ap, ◌∙◌}
use Rattle.std.proofs.lemmas.Bool.{false_from_ne_true}
use Rattle.std.specs.List.{list_any}
use Rattle.definitions.specs.Documents.{others_of, resource_uris_of}
use Rattle.definitions.specs.Lists.{has_repeat}
use Rattle.definitions.specs.Reach.{holds_resource}
use Rattle.definitions.specs.Schemas.{Document}
use Rattle.definitions.specs.Values.{Text, same_text}
use Rattle.definition_laws.proofs.Membership.{any_at, any_where, in_filter, from_filter, found_there, found_some}
use Rattle.definition_laws.proofs.Resources.{one_document}

-- ---- where the holder is another
holder_among : (canonical uri : Text) (ds : List Document) (d : Document) (b : Bool) → has_repeat same_text (resource_uris_of ds) ≡ false → find (holds_resource uri) ds ≡ Some d
    → same_text canonical d.canonical ≡ b → list_any (holds_resource uri) (others_of canonical ds) ≡ not b
holder_among canonical uri ds d false distinct found other =
    let there = found_there (holds_resource uri) ds d found in
    any_at (holds_resource uri) d (others_of canonical ds) (in_filter (λ x. not (same_text canonical x.canonical)) d ds there.0 (ap not other)) there.1
holder_among canonical uri ds d true distinct found same =
    false_from_ne_true (list_any (holds_resource uri) (others_of canonical ds)) (λ held.
    let there = found_there (holds_resource uri) ds d found in
    let by : (x : Document) × (Contains (others_of canonical ds) x × (holds_resource uri x ≡ true)) = any_where (holds_resource uri) (others_of canonical ds) held in
    let out = from_filter (λ x. not (same_text canonical x.canonical)) by.0 ds by.1.0 in
    let one = one_document ds uri by.0 d distinct out.0 there.0 by.1.1 there.1 in
    unlike (same_text canonical d.canonical) same (ap (λ x. not (same_text canonical x.canonical)) (sym one) ∙ out.1))
  where
    unlike : (b : Bool) → b ≡ true → not b ≡ true → ⊥
    unlike true e f = cc
    unlike false e f = cc

pub held_by_another : (canonical uri : Text) (ds : List Document) (d : Document) → has_repeat same_text (resource_uris_of ds) ≡ false → find (holds_resource uri) ds ≡ Some d
    → list_any (holds_resource uri) (others_of canonical ds) ≡ not (same_text canonical d.canonical)
held_by_another canonical uri ds d distinct found = holder_among canonical uri ds d (same_text canonical d.canonical) distinct found refl

pub held_by_none : (canonical uri : Text) (ds : List Document) → find (holds_resource uri) ds ≡ None → list_any (holds_resource uri) (others_of canonical ds) ≡ false
held_by_none canonical uri ds none =
    false_from_ne_true (list_any (holds_resource uri) (others_of canonical ds)) (λ held.
    let by : (x : Document) × (Contains (others_of canonical ds) x × (holds_resource uri x ≡ true)) = any_where (holds_resource uri) (others_of canonical ds) held in
    let out = from_filter (λ x. not (same_text canonical x.canonical)) by.0 ds by.1.0 in
    nowhere by.0 (found_some (holds_resource uri) by.0 ds out.0 by.1.1))
  where
    nowhere : (x : Document) → (z : Document) × (find (holds_resource uri) ds ≡ Some z) → ⊥
    nowhere x some = cc (none, some.1)
