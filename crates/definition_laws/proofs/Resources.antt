-- The resources of documents and of their tables.
use Rattle.std.proofs.Common.{◌≡◌, Bool, true, false, ◌&&◌, List, [], ◌∷◌, ◌++◌, map, is_some, IsTrue, Contains, filter, find, sym, refl, ap, ◌∙◌, subst, true≢false}
use Rattle.std.proofs.lemmas.Bool.{false_from_ne_true, and_from, and_parts}
use Rattle.std.proofs.lemmas.List.{map-append}
use Rattle.std.proofs.lemmas.List.Elements.{filter-append}
use Rattle.std.specs.Cmp.Lexicographic.{bytes_decides}
use Rattle.definitions.specs.Values.{Text, same_text}
use Rattle.definitions.specs.Schemas.{Schema, Document, schemas_of, table_of, is_root}
use Rattle.definitions.specs.Targets.{resource_root}
use Rattle.definitions.specs.Scanning.{resource_uris}
use Rattle.definitions.specs.Reach.{holds_resource, reach}
use Rattle.definitions.specs.Documents.{resources_of, resource_uris_of}
use Rattle.lemmas.proofs.Texts.{same_text_turned}
use Rattle.lemmas.proofs.Options.{some_from_is_some}
use Rattle.definition_laws.specs.Reaching.{HaveDistinctResources}
use Rattle.definition_laws.proofs.Membership.{in_filter, in_map, found_there}
use Rattle.definition_laws.proofs.Repeats.{filtered, one_with}
use Rattle.definition_laws.proofs.ReachedSets.{reach_as_filter}
use Rattle.definition_laws.proofs.Occurrences.{in_from_contains, found_somewhere, in_map as out_of_map, from_filter as out_of_filter, filter_passes}

-- ---- a document's resources
-- a URI that a table's schemas open has a root
pub opened_is_root : (table : List Schema) (u v : Text) → Contains (resource_uris table) v → same_text u v ≡ true → is_some (resource_root table u) ≡ true
opened_is_root table u v c e =
    let s = out_of_map (λ (s : Schema). s.resource) (filter is_root table) v (in_from_contains (resource_uris table) v c) in
    found_somewhere (λ t. same_text u t.resource && is_root t) table s.0 (out_of_filter is_root table s.0 s.1)
    (and_from (same_text u s.0.resource) (is_root s.0) (ap (same_text u) s.2 ∙ e) (filter_passes is_root table s.0 s.1))

pub apart_from_held : (d e : Document) → ((u : Text) → Contains (resources_of d) u → holds_resource u e ≡ false)
    → (u v : Text) → Contains (resources_of d) u → Contains (resources_of e) v → same_text u v ≡ false
apart_from_held d e free u v c k =
    false_from_ne_true (same_text u v) (λ same. true≢false (sym (opened_is_root (schemas_of e.base e.value) u v k same) ∙ free u c))

pub same_text-unlike : (t u : Text) → same_text t u ≡ false → same_text u t ≡ false
same_text-unlike t u e = same_text_turned u t ∙ e

-- ---- the other way round
where_found : {X : Type 0} (p : X → Bool) (xs : List X) → is_some (find p xs) ≡ true → (x : X) × (Contains xs x × (p x ≡ true))
where_found p xs e = let s = some_from_is_some (find p xs) e in (s.0, found_there p xs s.0 s.1)

-- a URI that has a root in a table is opened by one of its schemas
pub root_opens : (table : List Schema) (u : Text) → is_some (resource_root table u) ≡ true → Contains (resource_uris table) u
root_opens table u e =
    let s : (s : Schema) × (Contains table s × ((same_text u s.resource && is_root s) ≡ true)) = where_found (λ t. same_text u t.resource && is_root t) table e in
    let is : (same_text u s.0.resource ≡ true) × (is_root s.0 ≡ true) = and_parts (same_text u s.0.resource) (is_root s.0) s.1.1 in
    subst (Contains (resource_uris table)) (sym ((bytes_decides u s.0.resource).0 is.0))
    (in_map (λ (t : Schema). t.resource) s.0 (filter is_root table) (in_filter is_root s.0 table s.1.0 is.1))

pub one_document : (G : List Document) (uri : Text) (d e : Document) → HaveDistinctResources G → Contains G d → Contains G e
    → IsTrue (holds_resource uri d) → IsTrue (holds_resource uri e) → d ≡ e
one_document G uri d e distinct c k holds_d holds_e =
    one_with same_text resources_of G distinct d e uri uri c k (root_opens (schemas_of d.base d.value) uri holds_d) (root_opens (schemas_of e.base e.value) uri holds_e)
    ((bytes_decides uri uri).1 refl) ((bytes_decides uri uri).1 refl)

pub reached_distinct : (G : List Document) (uri : Text) → HaveDistinctResources G → HaveDistinctResources (reach G uri)
reached_distinct G uri distinct =
    let part : (p : Document → Bool) × (reach G uri ≡ filter p G) = reach_as_filter G uri in
    subst HaveDistinctResources (sym part.1) (filtered same_text resources_of part.0 G distinct)

-- ---- the URIs of a table
uris_of_both : (xs ys : List Schema) → resource_uris (xs ++ ys) ≡ resource_uris xs ++ resource_uris ys
uris_of_both xs ys = ap (map (λ (s : Schema). s.resource)) (filter-append is_root xs ys) ∙ map-append (λ (s : Schema). s.resource) (filter is_root xs) (filter is_root ys)

pub table_uris : (ds : List Document) → resource_uris (table_of ds) ≡ resource_uris_of ds
table_uris [] = refl
table_uris (d ∷ ds) = uris_of_both (schemas_of d.base d.value) (table_of ds) ∙ ap (λ us. resources_of d ++ us) (table_uris ds)
