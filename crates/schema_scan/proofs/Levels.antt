-- The schemas below one: their ways after a token, and the levels that are enough for all.
use Rattle.std.proofs.Common.{◌≡◌, ◌<◌, ℕ, zero, suc, List, [], ◌∷◌, ◌++◌, map, refl, sym, ap, ap₂, ◌∙◌, arith}
use Rattle.std.proofs.lemmas.List.{map-append}
use Rattle.std.specs.List.{flat_map}
use Rattle.definitions.specs.Values.{Text, nesting}
use Rattle.definitions.specs.Pointers.{Pointer}
use Rattle.definitions.specs.Keywords.{Keyword}
use Rattle.definitions.specs.Schemas.{Schema, subschemas_by, schemas_within}
use Rattle.definition_laws.proofs.Occurrences.{IsIn}
use Rattle.definition_laws.proofs.FlatMaps.{same_flat_map}
use Rattle.definition_laws.proofs.Places.{step_from}
use Rattle.definition_laws.proofs.Roots.{step_nests}
use Rattle.schema_scan.proofs.Lookups.{prefixed}

-- ---- after a token
module _ (rows : List Keyword) (key : Text) (n : ℕ) (shift : (way : Pointer) (s : Schema) → schemas_within rows n (key ∷ way) s ≡ map (prefixed key) (schemas_within rows n way s)) where
  shift_each : (way : Pointer) (subs : List (Pointer × Schema))
      → flat_map (λ t. schemas_within rows n (key ∷ (way ++ t.0)) t.1) subs ≡ map (prefixed key) (flat_map (λ t. schemas_within rows n (way ++ t.0) t.1) subs)
  shift_each way [] = refl
  shift_each way (t ∷ ts) =
      ap₂ (λ xs ys. xs ++ ys) (shift (way ++ t.0) t.1) (shift_each way ts)
      ∙ sym (map-append (prefixed key) (schemas_within rows n (way ++ t.0) t.1) (flat_map (λ u. schemas_within rows n (way ++ u.0) u.1) ts))

pub within_behind : (rows : List Keyword) (n : ℕ) (key : Text) (way : Pointer) (s : Schema) → schemas_within rows n (key ∷ way) s ≡ map (prefixed key) (schemas_within rows n way s)
within_behind rows zero key way s = refl
within_behind rows (suc n) key way s = ap (λ ts. (key ∷ way, s) ∷ ts) (shift_each rows key n (within_behind rows n key) way (subschemas_by rows s))

-- ---- a schema below nests less
pub subschema_nests : (rows : List Keyword) (s : Schema) (t : Pointer × Schema) → IsIn t (subschemas_by rows s) → nesting t.1.value < nesting s.value
subschema_nests rows s t i = step_nests rows s t.1 t.0 (step_from rows s t.1 t.0 i)

-- ---- more levels than a schema nests show no more
pub within_levels : (rows : List Keyword) (n m : ℕ) (way : Pointer) (s : Schema) → nesting s.value < n → nesting s.value < m → schemas_within rows n way s ≡ schemas_within rows m way s
within_levels rows zero m way s h k = absurd (omega arith)
within_levels rows (suc n) zero way s h k = absurd (omega arith)
within_levels rows (suc n) (suc m) way s h k =
    ap (λ ts. (way, s) ∷ ts)
    (same_flat_map (λ t. schemas_within rows n (way ++ t.0) t.1) (λ t. schemas_within rows m (way ++ t.0) t.1) (subschemas_by rows s)
    (λ t i. let less : nesting t.1.value < nesting s.value = subschema_nests rows s t i in
    within_levels rows n m (way ++ t.0) t.1 (omega arith) (omega arith)))
