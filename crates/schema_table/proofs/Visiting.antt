-- One step of a walk.
use Rattle.std.proofs.Common.{◌≡◌, ◌<◌, ℕ, ◌+◌, List, [], ◌∷◌, ◌++◌, map, length, get_or, drop, Bool, false, decimal, Option, Some, codes, refl, sym, ap, ◌∙◌}
use Rattle.std.proofs.lemmas.List.{drop_more}
use Rattle.definitions.specs.Values.{Text, Value, object, text_at, to_elements}
use Rattle.definitions.specs.Lists.{first}
use Rattle.json_doc.specs.Docs.{value}
use Rattle.json_doc.specs.declared.doc.Doc.{Doc}
use Rattle.locations.specs.Hops.{Hop, to_element}
use Rattle.schema_table.specs.Missteps.{Misstep, below_name, missteps, missteps_in_list, missteps_inside, schema_missteps}
use Rattle.schema_table.specs.Refusals.{Refuses}
use Rattle.schema_table.specs.Spots.{opened_start, opened_uri, start_of, resource_of, spots, spots_from, spots_in_list}
use Rattle.schema_table.specs.declared.refusal.Refusal.{Refusal}
use Rattle.schema_table.specs.declared.refusal.Refusal.TheVariants.{NoRoom}

spots-is : (way : List Hop) (start : ℕ) (base : Text) (v : Value) → spots way start base v ≡ spots_from way (start_of start way v) (resource_of base v) v
spots-is way start base (object ms) = refl
spots-is way start base _ = refl

by-id : (way : List Hop) (start : ℕ) (base : Text) (v : Value) (id : Option Text) → text_at (codes "$id") v ≡ id
    → spots_from way (start_of start way v) (resource_of base v) v ≡ spots_from way (opened_start start (length way) id) (opened_uri base id) v
unfolding start_of resource_of
by-id way start base v id e = ap (λ i. spots_from way (opened_start start (length way) i) (opened_uri base i) v) e

-- the schema opens a resource, or stays in the one around
pub spots-by : (way : List Hop) (start : ℕ) (base : Text) (v : Value) (id : Option Text) → text_at (codes "$id") v ≡ id
    → spots way start base v ≡ spots_from way (opened_start start (length way) id) (opened_uri base id) v
spots-by way start base v id e = spots-is way start base v ∙ by-id way start base v id e

-- the element of this index comes next
pub spots-index : (way : List Hop) (start : ℕ) (uri : Text) (xs : List Doc) (i : ℕ) (d : Doc) → i < length xs → d ≡ get_or xs i d
    → spots_in_list way start uri i (to_elements (map value (drop i xs)))
    ≡ spots (way ++ to_element i ∷ []) start uri (value d) ++ spots_in_list way start uri (i + 1) (to_elements (map value (drop (i + 1) xs)))
spots-index way start uri xs i d h e =
    ap (λ ys. spots_in_list way start uri i (to_elements (map value ys))) (drop_more xs i d h)
    ∙ ap (λ y. spots (way ++ to_element i ∷ []) start uri (value y) ++ spots_in_list way start uri (i + 1) (to_elements (map value (drop (i + 1) xs)))) (sym e)

-- ---- missteps: the schema's own come first
missteps-is : (base : Text) (at_root : Bool) (v : Value) → missteps base at_root v ≡ schema_missteps base at_root v ++ missteps_inside (resource_of base v) v
missteps-is base at_root (object ms) = refl
missteps-is base at_root _ = refl

inside-by : (base : Text) (v : Value) (id : Option Text) → text_at (codes "$id") v ≡ id → missteps_inside (resource_of base v) v ≡ missteps_inside (opened_uri base id) v
unfolding resource_of
inside-by base v id e = ap (λ i. missteps_inside (opened_uri base i) v) e

-- where its own keywords pass, they are those inside
pub missteps-by : (base : Text) (at_root : Bool) (v : Value) (id : Option Text) → text_at (codes "$id") v ≡ id → schema_missteps base at_root v ≡ []
    → missteps base at_root v ≡ missteps_inside (opened_uri base id) v
missteps-by base at_root v id e own =
    missteps-is base at_root v ∙ ap (λ ms. ms ++ missteps_inside (resource_of base v) v) own ∙ inside-by base v id e

pub first-append : {X : Type 0} (xs ys : List X) (x : X) → first xs ≡ Some x → first (xs ++ ys) ≡ Some x
first-append [] ys x e = cc
first-append (z ∷ xs) ys x e = e

-- what comes later doesn't matter
pub Refuses-append : (r : Refusal) (ms ns : List Misstep) → Refuses r ms → Refuses r (ms ++ ns)
Refuses-append NoRoom ms ns h = tt
Refuses-append _ ms ns h = first-append ms ns _ h

-- the element of this index comes next
pub missteps-index : (base : Text) (xs : List Doc) (i : ℕ) (d : Doc) → i < length xs → d ≡ get_or xs i d
    → missteps_in_list base i (to_elements (map value (drop i xs))) ≡ below_name (decimal i) (missteps base false (value d)) ++ missteps_in_list base (i + 1) (to_elements (map value (drop (i + 1) xs)))
missteps-index base xs i d h e =
    ap (λ ys. missteps_in_list base i (to_elements (map value ys))) (drop_more xs i d h)
    ∙ ap (λ y. below_name (decimal i) (missteps base false (value y)) ++ missteps_in_list base (i + 1) (to_elements (map value (drop (i + 1) xs)))) (sym e)
