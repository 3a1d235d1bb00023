-- The schemas of the definitions are those of the walk.
use Rattle.std.proofs.Common.{◌≡◌, ◌<◌, ◌≤◌, ℕ, zero, suc, ◌+◌, List, [], ◌∷◌, ◌++◌, map, length, drop, Option, Some, None, decimal, refl, sym, ap, ap₂, ◌∙◌, arith, append_assoc, append-nil, length-append}
use Rattle.std.proofs.lemmas.Grind.{flat_map-append}
use Rattle.std.proofs.lemmas.List.{map-append, drop_all, drop-append-le}
use Rattle.std.specs.List.{flat_map, enumerate_from}
use Rattle.definitions.specs.Values.{Text, Value, null, array, object, Elements, no_elements, element, elements_list, Members, no_members, member, members_list, nesting, elements_nesting, members_nesting}
use Rattle.definitions.specs.Pointers.{Pointer}
use Rattle.definitions.specs.Shapes.{Shape, one_schema, schema_list, schema_map}
use Rattle.definitions.specs.Keywords.{keywords, shape_in}
use Rattle.definitions.specs.Schemas.{Schema, opened_schema, schema_at, below, at_place, schemas_within, schemas_of}
use Rattle.keywords.specs.Rows.{shape_named}
use Rattle.keywords.proofs.Names.{shape_named-row}
use Rattle.definition_laws.proofs.Places.{value-opened}
use Rattle.locations.specs.Hops.{Hop, to_member, to_element, hop_token, hop_tokens}
use Rattle.schema_table.specs.Spots.{spot_view, spot_in, id_of, opened_uri, opened_start, resource_of, start_of, spots, spots_below, spots_at, spots_in_list, spots_in_map}

abbrev schema_with : Text → Value → Pointer → Schema
schema_with uri v p = record { resource = uri; pointer = p; value = v }

opened-spot : (base : Text) (way : List Hop) (start : ℕ) (v : Value) (id : Option Text)
    → opened_schema base (hop_tokens (drop start way)) v id ≡ spot_view (spot_in way (opened_start start (length way) id) (opened_uri base id) v)
opened-spot base way start v None = refl
opened-spot base way start v (Some id) = ap (λ hs. schema_with (opened_uri base (Some id)) v (hop_tokens hs)) (sym (drop_all (length way) way (omega arith)))

pub schema-spot : (base : Text) (way : List Hop) (start : ℕ) (v : Value)
    → schema_at base (hop_tokens (drop start way)) v ≡ spot_view (spot_in way (start_of start way v) (resource_of base v) v)
unfolding start_of resource_of
schema-spot base way start v = opened-spot base way start v (id_of v)

opened_within : (start : ℕ) (way : List Hop) (id : Option Text) → start ≤ length way → opened_start start (length way) id ≤ length way
opened_within start way None h = h
opened_within start way (Some id) h = omega arith

pub start_within : (start : ℕ) (way : List Hop) (v : Value) → start ≤ length way → start_of start way v ≤ length way
unfolding start_of
start_within start way v h = opened_within start way (id_of v) h

abbrev pub of_schema : Pointer × Schema → Schema
of_schema t = t.1

-- a single schema
pub one-spots : (way : List Hop) (start : ℕ) (base : Text) (v : Value) → spots_at one_schema way start base v ≡ spots way start base v
one-spots way start base (object ms) = refl
one-spots way start base _ = refl

-- what so many levels hold, at every schema that nests less deep
abbrev Holds : ℕ → Type 0
Holds n = (w : Pointer) (way : List Hop) (start : ℕ) (base : Text) (v : Value) → start ≤ length way → nesting v < n
    → map of_schema (schemas_within keywords n w (schema_at base (hop_tokens (drop start way)) v)) ≡ map spot_view (spots way start base v)

module _ (n : ℕ) (holds : Holds n) (w : Pointer) (way : List Hop) (start : ℕ) (uri : Text) (v0 : Value) (within_way : start ≤ length way) where
  abbrev around : Schema
  around = spot_view (spot_in way start uri v0)

  abbrev within : Pointer × Schema → List (Pointer × Schema)
  within t = schemas_within keywords n (w ++ t.0) t.1

  tokens-more : (more : List Hop) → hop_tokens (drop start way) ++ hop_tokens more ≡ hop_tokens (drop start (way ++ more))
  tokens-more more = sym (map-append hop_token (drop start way) more) ∙ ap hop_tokens (sym (drop-append-le start way more within_way))

  longer : (more : List Hop) → start ≤ length (way ++ more)
  longer more = omega (arith, within_way, length-append way more)

  held : (more : List Hop) (v : Value) → nesting v < n
      → map of_schema (within (hop_tokens more, below around (hop_tokens more) v)) ≡ map spot_view (spots (way ++ more) start uri v)
  held more v h =
      ap (λ p. map of_schema (schemas_within keywords n (w ++ hop_tokens more) (schema_at uri p v))) (tokens-more more)
      ∙ holds (w ++ hop_tokens more) (way ++ more) start uri v (longer more) h

  held_below : (name : Text) (hop : Hop) (v : Value) → nesting v < n
      → map of_schema (within (name ∷ hop_token hop ∷ [], below around (name ∷ hop_token hop ∷ []) v)) ≡ map spot_view (spots ((way ++ to_member name ∷ []) ++ hop ∷ []) start uri v)
  held_below name hop v h =
      held (to_member name ∷ hop ∷ []) v h ∙ ap (λ hs. map spot_view (spots hs start uri v)) (sym (append_assoc way (to_member name ∷ []) (hop ∷ [])))

  map_spots : (name : Text) (ms : Members) → members_nesting ms < n
      → map of_schema (flat_map within (map (λ m. (name ∷ m.0 ∷ [], below around (name ∷ m.0 ∷ []) m.1)) (members_list ms))) ≡ map spot_view (spots_in_map (way ++ to_member name ∷ []) start uri ms)
  map_spots name no_members h = refl
  map_spots name (member key v ms) h =
      map-append of_schema (within (name ∷ key ∷ [], below around (name ∷ key ∷ []) v)) (flat_map within (map (λ m. (name ∷ m.0 ∷ [], below around (name ∷ m.0 ∷ []) m.1)) (members_list ms)))
      ∙ ap₂ (λ a b. a ++ b) (held_below name (to_member key) v (omega arith)) (map_spots name ms (omega arith))
      ∙ sym (map-append spot_view (spots ((way ++ to_member name ∷ []) ++ to_member key ∷ []) start uri v) (spots_in_map (way ++ to_member name ∷ []) start uri ms))

  list_spots : (name : Text) (i : ℕ) (vs : Elements) → elements_nesting vs < n
      → map of_schema (flat_map within (map (λ e. (name ∷ decimal e.0 ∷ [], below around (name ∷ decimal e.0 ∷ []) e.1)) (enumerate_from i (elements_list vs)))) ≡ map spot_view (spots_in_list (way ++ to_member name ∷ []) start uri i vs)
  list_spots name i no_elements h = refl
  list_spots name i (element v vs) h =
      map-append of_schema (within (name ∷ decimal i ∷ [], below around (name ∷ decimal i ∷ []) v)) (flat_map within (map (λ e. (name ∷ decimal e.0 ∷ [], below around (name ∷ decimal e.0 ∷ []) e.1)) (enumerate_from (i + 1) (elements_list vs))))
      ∙ ap₂ (λ a b. a ++ b) (held_below name (to_element i) v (omega arith)) (list_spots name (i + 1) vs (omega arith))
      ∙ sym (map-append spot_view (spots ((way ++ to_member name ∷ []) ++ to_element i ∷ []) start uri v) (spots_in_list (way ++ to_member name ∷ []) start uri (i + 1) vs))

  one_spot : (name : Text) (v : Value) → nesting v < n
      → map of_schema (flat_map within ((name ∷ [], below around (name ∷ []) v) ∷ [])) ≡ map spot_view (spots (way ++ to_member name ∷ []) start uri v)
  one_spot name v h =
      map-append of_schema (within (name ∷ [], below around (name ∷ []) v)) []
      ∙ append-nil (map of_schema (within (name ∷ [], below around (name ∷ []) v)))
      ∙ held (to_member name ∷ []) v h

  at_spots : (shape : Shape) (name : Text) (v : Value) → nesting v < n
      → map of_schema (flat_map within (at_place around name v shape)) ≡ map spot_view (spots_at shape (way ++ to_member name ∷ []) start uri v)
  at_spots one_schema name v h = one_spot name v h ∙ ap (map spot_view) (sym (one-spots (way ++ to_member name ∷ []) start uri v))
  at_spots schema_list name (array vs) h = list_spots name 0 vs (omega arith)
  at_spots schema_map name (object ms) h = map_spots name ms (omega arith)
  at_spots _ name _ h = refl

  below_spots : (ms : Members) → members_nesting ms < n
      → map of_schema (flat_map within (flat_map (λ m. at_place around m.0 m.1 (shape_in keywords m.0)) (members_list ms))) ≡ map spot_view (spots_below way start uri ms)
  below_spots no_members h = refl
  below_spots (member name v ms) h =
      ap (map of_schema) (flat_map-append within (at_place around name v (shape_in keywords name)) (flat_map (λ m. at_place around m.0 m.1 (shape_in keywords m.0)) (members_list ms)))
      ∙ map-append of_schema (flat_map within (at_place around name v (shape_in keywords name))) (flat_map within (flat_map (λ m. at_place around m.0 m.1 (shape_in keywords m.0)) (members_list ms)))
      ∙ ap₂ (λ a b. a ++ b)
      (at_spots (shape_in keywords name) name v (omega arith) ∙ ap (λ k. map spot_view (spots_at k (way ++ to_member name ∷ []) start uri v)) (shape_named-row name))
      (below_spots ms (omega arith))
      ∙ sym (map-append spot_view (spots_at (shape_named name) (way ++ to_member name ∷ []) start uri v) (spots_below way start uri ms))

level_spots : (n : ℕ) → Holds n → (w : Pointer) (way : List Hop) (start : ℕ) (base : Text) (v : Value) → start ≤ length way → nesting v < suc n
    → map of_schema (schemas_within keywords (suc n) w (spot_view (spot_in way (start_of start way v) (resource_of base v) v))) ≡ map spot_view (spots way start base v)
level_spots n holds w way start base (object ms) k h =
    ap (λ ss. spot_view (spot_in way (start_of start way (object ms)) (resource_of base (object ms)) (object ms)) ∷ ss)
    (below_spots n holds w way (start_of start way (object ms)) (resource_of base (object ms)) (object ms) (start_within start way (object ms) k) ms (omega arith))
level_spots n holds w way start base null k h = refl
level_spots n holds w way start base _ k h = refl

pub schemas_within-spots : (n : ℕ) → Holds n
schemas_within-spots zero w way start base v k h = absurd (omega arith)
schemas_within-spots (suc n) w way start base v k h =
    ap (λ s. map of_schema (schemas_within keywords (suc n) w s)) (schema-spot base way start v)
    ∙ level_spots n (schemas_within-spots n) w way start base v k h

-- the schemas of a document
pub schemas_of-spots : (base : Text) (v : Value) → schemas_of base v ≡ map spot_view (spots [] 0 base v)
schemas_of-spots base v =
    ap (λ u. map of_schema (schemas_within keywords (suc (nesting u)) [] (schema_at base [] v))) (value-opened base [] v (id_of v))
    ∙ schemas_within-spots (suc (nesting v)) [] [] 0 base v (omega arith) (omega arith)
