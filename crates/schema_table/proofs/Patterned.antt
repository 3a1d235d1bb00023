-- The patterns of a schema, and those of a document.
use Rattle.std.proofs.Common.{◌≡◌, ◌+◌, ℕ, List, [], ◌∷◌, ◌++◌, map, Option, Some, option_map, option_and_then, unwrap_or, codes, refl, sym, ap, ap₂, ◌∙◌}
use Rattle.std.proofs.lemmas.Grind.{flat_map-append}
use Rattle.std.specs.List.{flat_map}
use Rattle.definitions.specs.Values.{Text, Value, array, object, Elements, no_elements, element, Members, no_members, member, get, members, text_at}
use Rattle.definitions.specs.Lists.{option_list}
use Rattle.definitions.specs.Searches.{patterns, patterns_of}
use Rattle.definitions.specs.Shapes.{Shape, one_schema, schema_list, schema_map}
use Rattle.json_doc.specs.Kinds.{as_members}
use Rattle.schema_table.specs.PatternTexts.{patterns_at, names_at}
use Rattle.keywords.specs.Rows.{shape_named}
use Rattle.locations.specs.Hops.{Hop, to_member, to_element}
use Rattle.schema_table.specs.Gathering.{spot_patterns}
use Rattle.schema_table.specs.Spots.{Spot, spot_view, resource_of, start_of, spots, spots_below, spots_at, spots_in_list, spots_in_map}
use Rattle.schema_table.proofs.Standing.{schemas_of-spots}

-- ---- of a schema
abbrev names : Option (List (Text × Value)) → List Text
names ms = unwrap_or (option_map (map (λ m. m.0)) ms) []

names-of : (u : Option Value) → unwrap_or (option_map (λ u. map (λ m. m.0) (members u)) u) [] ≡ names (option_and_then as_members u)
names-of (Some (object ms)) = refl
names-of _ = refl

pub names_at-members : (keyword : Text) (v : Value) (ms : Option (List (Text × Value))) → ms ≡ option_and_then as_members (get keyword v) → names_at keyword v ≡ names ms
unfolding names_at
names_at-members keyword v ms e = names-of (get keyword v) ∙ ap names (sym e)

pub patterns_at-parts : (v : Value) (t : Option Text) → t ≡ text_at (codes "pattern") v → patterns_at v ≡ option_list t ++ names_at (codes "patternProperties") v
unfolding patterns_at names_at
patterns_at-parts v t e = ap (λ u. option_list u ++ unwrap_or (option_map (λ u. map (λ m. m.0) (members u)) (get (codes "patternProperties") v)) []) (sym e)

-- ---- of a document
patterns-of : (ss : List Spot) → flat_map patterns_of (map spot_view ss) ≡ flat_map spot_patterns ss
unfolding patterns_at
patterns-of [] = refl
patterns-of (s ∷ ss) = ap (λ ts. patterns_of (spot_view s) ++ ts) (patterns-of ss)

both : (ps qs rs ss : List Spot) → flat_map spot_patterns ps ≡ flat_map spot_patterns rs → flat_map spot_patterns qs ≡ flat_map spot_patterns ss
    → flat_map spot_patterns (ps ++ qs) ≡ flat_map spot_patterns (rs ++ ss)
both ps qs rs ss e f = flat_map-append spot_patterns ps qs ∙ ap₂ (λ a b. a ++ b) e f ∙ sym (flat_map-append spot_patterns rs ss)

-- where a schema stands doesn't matter
module _ where
  mutual
    same_everywhere : (way hops : List Hop) (start from : ℕ) (base other : Text) (v : Value) → flat_map spot_patterns (spots way start base v) ≡ flat_map spot_patterns (spots hops from other v)
    same_everywhere way hops start from base other (object ms) = ap (λ ts. patterns_at (object ms) ++ ts) (same_below way hops (start_of start way (object ms)) (start_of from hops (object ms)) (resource_of base (object ms)) (resource_of other (object ms)) ms)
    same_everywhere way hops start from base other _ = refl

    same_below : (way hops : List Hop) (start from : ℕ) (base other : Text) (ms : Members) → flat_map spot_patterns (spots_below way start base ms) ≡ flat_map spot_patterns (spots_below hops from other ms)
    same_below way hops start from base other no_members = refl
    same_below way hops start from base other (member name v ms) =
        both (spots_at (shape_named name) (way ++ to_member name ∷ []) start base v) (spots_below way start base ms) (spots_at (shape_named name) (hops ++ to_member name ∷ []) from other v) (spots_below hops from other ms)
        (same_at (shape_named name) (way ++ to_member name ∷ []) (hops ++ to_member name ∷ []) start from base other v) (same_below way hops start from base other ms)

    same_at : (shape : Shape) (way hops : List Hop) (start from : ℕ) (base other : Text) (v : Value) → flat_map spot_patterns (spots_at shape way start base v) ≡ flat_map spot_patterns (spots_at shape hops from other v)
    same_at one_schema way hops start from base other (object ms) = ap (λ ts. patterns_at (object ms) ++ ts) (same_below way hops (start_of start way (object ms)) (start_of from hops (object ms)) (resource_of base (object ms)) (resource_of other (object ms)) ms)
    same_at schema_list way hops start from base other (array vs) = same_in_list way hops start from base other 0 0 vs
    same_at schema_map way hops start from base other (object ms) = same_in_map way hops start from base other ms
    same_at _ way hops start from base other _ = refl

    same_in_list : (way hops : List Hop) (start from : ℕ) (base other : Text) (i j : ℕ) (vs : Elements) → flat_map spot_patterns (spots_in_list way start base i vs) ≡ flat_map spot_patterns (spots_in_list hops from other j vs)
    same_in_list way hops start from base other i j no_elements = refl
    same_in_list way hops start from base other i j (element v vs) =
        both (spots (way ++ to_element i ∷ []) start base v) (spots_in_list way start base (i + 1) vs) (spots (hops ++ to_element j ∷ []) from other v) (spots_in_list hops from other (j + 1) vs)
        (same_everywhere (way ++ to_element i ∷ []) (hops ++ to_element j ∷ []) start from base other v) (same_in_list way hops start from base other (i + 1) (j + 1) vs)

    same_in_map : (way hops : List Hop) (start from : ℕ) (base other : Text) (ms : Members) → flat_map spot_patterns (spots_in_map way start base ms) ≡ flat_map spot_patterns (spots_in_map hops from other ms)
    same_in_map way hops start from base other no_members = refl
    same_in_map way hops start from base other (member name v ms) =
        both (spots (way ++ to_member name ∷ []) start base v) (spots_in_map way start base ms) (spots (hops ++ to_member name ∷ []) from other v) (spots_in_map hops from other ms)
        (same_everywhere (way ++ to_member name ∷ []) (hops ++ to_member name ∷ []) start from base other v) (same_in_map way hops start from base other ms)

pub document-patterns : (base : Text) (v : Value) → patterns v ≡ flat_map spot_patterns (spots [] 0 base v)
document-patterns base v =
    ap (flat_map patterns_of) (schemas_of-spots [] v) ∙ patterns-of (spots [] 0 [] v) ∙ same_everywhere [] [] 0 0 [] base v
