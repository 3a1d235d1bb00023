-- A schema's absolute location names it.
use Rattle.std.proofs.Common.{◌≡◌, ◌==◌, ◌&&◌, ◌++◌, ℕ, List, [], ◌∷◌, Bool, true, false, cond, Option, Some, option_and_then, decimal, refl, sym, ap, ap₂, subst, ◌∙◌, arith, inl, inr}
use Rattle.std.proofs.lemmas.Bool.{and_parts}
use Rattle.std.proofs.lemmas.Fmt.{IsAscii-decimal}
use Rattle.std.proofs.lemmas.Str.{IsUtf8-from_is_utf8, IsUtf8-from_ascii}
use Rattle.std.specs.Str.{IsUtf8, is_utf8}
use Rattle.definitions.specs.Values.{Text, Value, null, boolean, integer, string, array, object, Members, no_members, member, elements, members, members_list, is_well_formed, are_well_formed_members, is_before}
use Rattle.definitions.specs.Fragments.{pointer_fragment, kind_of_text, fragment_kind}
use Rattle.definitions.specs.Pointers.{Pointer, pointer_text, fragment_text}
use Rattle.definitions.specs.Uris.{without_fragment}
use Rattle.definitions.specs.Lists.{cut_at}
use Rattle.definitions.specs.Shapes.{Shape, one_schema, schema_list, schema_map}
use Rattle.definitions.specs.Keywords.{Keyword, keywords, shape_in}
use Rattle.definitions.specs.Schemas.{Schema, table_of}
use Rattle.definitions.specs.Targets.{target_in, resource_root, schema_at_pointer}
use Rattle.definition_laws.specs.Identities.{IsDefinite}
use Rattle.definition_laws.specs.Locations.{LocationsNameSchemas}
use Rattle.definition_laws.proofs.Occurrences.{IsIn, in_from_contains, contains_from_in, in_map, numbered_within}
use Rattle.definition_laws.proofs.Places.{IsStep, IsBelow, here, further, places, short_array, definite_members, step_definite}
use Rattle.lemmas.proofs.PointerTexts.{read_back}
use Rattle.definition_laws.proofs.FragmentTexts.{AreTexts, fragment_back}
use Rattle.definition_laws.proofs.Roots.{table_roots, table_definite, pointer_root, roots_found, schemas_pointed_to}

-- ---- the tokens that lead to a schema are texts
name_text : (ms : Members) (n : Text) (v : Value) → are_well_formed_members ms ≡ true → IsIn (n, v) (members_list ms) → IsUtf8 n
name_text no_members n v h i = absurd i
name_text (member m u ms) n v h (inl e) =
    subst IsUtf8 (ap (λ x. x.0) e) (IsUtf8-from_is_utf8 m (and_parts (is_utf8 m) (is_before m ms && (is_well_formed u && are_well_formed_members ms)) h).0)
name_text (member m u ms) n v h (inr i) =
    let p = and_parts (is_utf8 m) (is_before m ms && (is_well_formed u && are_well_formed_members ms)) h in
    let q = and_parts (is_before m ms) (is_well_formed u && are_well_formed_members ms) p.1 in
    name_text ms n v (and_parts (is_well_formed u) (are_well_formed_members ms) q.1).1 i

member_text : (v : Value) (n : Text) (u : Value) → IsDefinite v → IsIn (n, u) (members v) → IsUtf8 n
member_text null n u d i = absurd i
member_text (boolean b) n u d i = absurd i
member_text (integer z) n u d i = absurd i
member_text (string s) n u d i = absurd i
member_text (array vs) n u d i = absurd i
member_text (object ms) n u d i = name_text ms n u d.well_formed i

place_texts : (v : Value) (shape : Shape) (way : Pointer) (u : Value) → IsDefinite v → IsIn (way, u) (places v shape) → AreTexts way
place_texts v one_schema way u d (inl e) = subst AreTexts (ap (λ x. x.0) e) tt
place_texts v one_schema way u d (inr i) = absurd i
place_texts v schema_list way u d i =
    let r = in_map _ _ _ i in
    let n : ℕ = (r.0).0 in
    let within = numbered_within 0 (elements v) n (r.0).1 r.1 in
    subst AreTexts (ap (λ x. x.0) r.2) (IsUtf8-from_ascii (decimal n) (IsAscii-decimal n (omega (arith, within.1, short_array v d))), tt)
place_texts v schema_map way u d i =
    let r = in_map _ _ _ i in
    subst AreTexts (ap (λ x. x.0) r.2) (member_text v (r.0).0 (r.0).1 d r.1, tt)
place_texts v _ way u d i = absurd i

step_texts : (rows : List Keyword) (s t : Schema) (way : Pointer) → IsStep rows s t way → IsDefinite s.value → AreTexts way
step_texts rows s t way h d =
    subst AreTexts (sym h.way_is)
    (member_text s.value h.name h.value d h.inside, place_texts h.value (shape_in rows h.name) h.rest h.part (definite_members s.value h.name h.value d h.inside) h.place)

texts-append : (p q : Pointer) → AreTexts p → AreTexts q → AreTexts (p ++ q)
texts-append [] q h k = k
texts-append (t ∷ ts) q h k = (h.0, texts-append ts q h.1 k)

below_texts : (rows : List Keyword) (s t : Schema) (way : Pointer) → IsBelow rows s t way → IsDefinite s.value → AreTexts way
below_texts rows s t way (here e f) d = subst AreTexts (sym f) tt
below_texts rows s t way (further {t = u} {way = first} {rest = rest} step more w) d =
    subst AreTexts (sym w) (texts-append first rest (step_texts rows s u first step d) (below_texts rows u t rest more (step_definite rows s u first step d)))

-- ---- a URI without a fragment, and one
cut_before : (uri fragment : Text) → without_fragment uri ≡ uri → cut_at (λ c. c == 35) (uri ++ (35 ∷ fragment)) ≡ (uri, Some fragment)
cut_before [] fragment h = refl
cut_before (c ∷ cs) fragment h = by (c == 35) h (cut_before cs fragment)
  where
    by : (b : Bool) → (cond {A = Text × Option Text} b ([], Some cs) (c ∷ without_fragment cs, (cut_at (λ d. d == 35) cs).1)).0 ≡ c ∷ cs
        → (without_fragment cs ≡ cs → cut_at (λ d. d == 35) (cs ++ (35 ∷ fragment)) ≡ (cs, Some fragment))
        → cond {A = Text × Option Text} b ([], Some (cs ++ (35 ∷ fragment))) (c ∷ (cut_at (λ d. d == 35) (cs ++ (35 ∷ fragment))).0, (cut_at (λ d. d == 35) (cs ++ (35 ∷ fragment))).1) ≡ (c ∷ cs, Some fragment)
    by true e later = absurd (cc)
    by false e later = let rest : without_fragment cs ≡ cs = cc in ap (λ x. (c ∷ x.0, x.1)) (later rest)

located : (table : List Schema) (uri : Text) (p : Pointer) (s : Schema) → AreTexts p → (p ≡ [] → resource_root table uri ≡ Some s)
    → option_and_then (schema_at_pointer p) (resource_root table uri) ≡ Some s → target_in table uri (kind_of_text (pointer_text p)) ≡ Some s
located table uri [] s h root below = root refl
located table uri (t ∷ ts) s h root below = ap (λ o. target_in table uri (pointer_fragment o)) (read_back (t ∷ ts)) ∙ below

pub locations_name_schemas : LocationsNameSchemas
locations_name_schemas ds h s i bare =
    let table : List Schema = table_of ds in
    let r = table_roots ds s (in_from_contains table s i) in
    let definite : IsDefinite (r.root).value = table_definite ds (λ d j. h.values d (contains_from_in ds d j)) r.root r.held in
    let texts : AreTexts s.pointer = below_texts keywords r.root s s.pointer r.leads definite in
    let cut = cut_before s.resource (fragment_text s.pointer) bare in
    ap₂ (λ uri o. target_in table uri (fragment_kind o)) (ap (λ x. x.0) cut) (ap (λ x. x.1) cut)
    ∙ ap (target_in table s.resource) (fragment_back s.pointer texts)
    ∙ located table s.resource s.pointer s texts (λ e. roots_found ds h.uris s i (pointer_root s e)) (schemas_pointed_to ds h s i)
