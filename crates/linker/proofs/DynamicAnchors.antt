-- The dynamic anchors of a table, and the outermost resource of a scope that has one.
use Rattle.std.proofs.Common.{◌≡◌, ◌<◌, ◌+◌, ◌++◌, ◌∷◌, [], ◌||◌, ℕ, zero, suc, Bool, List, Option, Some, None, true, false, not, cond, length, get_or, is_some, unwrap_or, refl, sym, ap, ap₂, ◌∙◌, arith}
use Rattle.std.specs.List.{position_or_len}
use Rattle.std.proofs.lemmas.List.Folds.{find-append}
use Rattle.std.specs.Option.{option_or}
use Rattle.definitions.specs.Schemas.{Document, Schema, schemas_of, table_of}
use Rattle.definitions.specs.Targets.{is_dynamic_anchor, outermost, schema_with_dynamic_anchor}
use Rattle.definitions.specs.Values.{Text}
use Rattle.lemmas.proofs.Lists.{flat_map-push}
use Rattle.lemmas.proofs.Options.{some_from_is_some}
use Rattle.linker.specs.DynamicTargets.{is_anchored}
use Rattle.linker.proofs.Tables.{in_resource}

either : (a b : Option Schema) → is_some (option_or a b) ≡ (is_some a || is_some b)
either None b = refl
either (Some x) b = refl

-- one document more
pub anchored_more : (ds : List Document) (d : Document) (uri name : Text)
    → is_some (schema_with_dynamic_anchor (table_of (ds ++ d ∷ [])) uri name)
    ≡ (is_some (schema_with_dynamic_anchor (table_of ds) uri name) || is_some (schema_with_dynamic_anchor (schemas_of d.base d.value) uri name))
anchored_more ds d uri name =
    ap (λ ss. is_some (schema_with_dynamic_anchor ss uri name)) (flat_map-push (λ (e : Document). schemas_of e.base e.value) ds d)
    ∙ ap is_some (find-append (in_resource uri (is_dynamic_anchor name)) (table_of ds) (schemas_of d.base d.value))
    ∙ either (schema_with_dynamic_anchor (table_of ds) uri name) (schema_with_dynamic_anchor (schemas_of d.base d.value) uri name)

-- ---- a scope
pub position_same : (p q : Text → Bool) → ((t : Text) → p t ≡ q t) → (ts : List Text) → position_or_len p ts ≡ position_or_len q ts
position_same p q same [] = refl
position_same p q same (t ∷ ts) = ap₂ (λ b n. cond (not b) (1 + n) 0) (same t) (position_same p q same ts)

nothing : (o : Option Schema) → is_some o ≡ false → (s : Schema) → unwrap_or o s ≡ s
nothing None e s = refl
nothing (Some x) e s = cc

module _ (table : List Schema) (name : Text) where
  -- a resource without the anchor is passed
  pub outermost_further : (uri : Text) (scope : List Text) (first : Schema) → is_some (schema_with_dynamic_anchor table uri name) ≡ false
      → outermost table (uri ∷ scope) name first ≡ outermost table scope name first
  outermost_further uri scope first e = nothing (schema_with_dynamic_anchor table uri name) e (outermost table scope name first)

  -- the first that has the anchor
  pub outermost_here : (uri : Text) (scope : List Text) (o : Option Schema) (first : Schema) → o ≡ schema_with_dynamic_anchor table uri name → is_some (schema_with_dynamic_anchor table uri name) ≡ true
      → unwrap_or o first ≡ outermost table (uri ∷ scope) name first
  outermost_here uri scope o first e there =
      let found : (s : Schema) × (schema_with_dynamic_anchor table uri name ≡ Some s) = some_from_is_some (schema_with_dynamic_anchor table uri name) there in
      ap (λ x. unwrap_or x first) (e ∙ found.1) ∙ sym (ap (λ x. unwrap_or x (outermost table scope name first)) found.1)

  -- what stands before a resource that has the anchor, or before the end of the scope, has no say
  pub outermost_at : (scope : List Text) (i : ℕ) (first : Schema) → i ≡ position_or_len (is_anchored table name) scope → i < length scope
      → unwrap_or (schema_with_dynamic_anchor table (get_or scope i []) name) first ≡ outermost table scope name first
  outermost_at [] i first at less = absurd (omega arith)
  outermost_at (uri ∷ scope) i first at less = by (λ j. outermost_at scope j first) (is_anchored table name uri) refl i at less
    where
      by : ((j : ℕ) → j ≡ position_or_len (is_anchored table name) scope → j < length scope → unwrap_or (schema_with_dynamic_anchor table (get_or scope j []) name) first ≡ outermost table scope name first)
          → (b : Bool) → is_anchored table name uri ≡ b → (i : ℕ) → i ≡ cond (not b) (1 + position_or_len (is_anchored table name) scope) 0 → i < length (uri ∷ scope)
          → unwrap_or (schema_with_dynamic_anchor table (get_or (uri ∷ scope) i []) name) first ≡ outermost table (uri ∷ scope) name first
      by further true e zero at less = outermost_here uri scope (schema_with_dynamic_anchor table uri name) first refl e
      by further true e (suc i) at less = absurd (omega (arith, at))
      by further false e zero at less = absurd (omega (arith, at))
      by further false e (suc i) at less = further i (omega (arith, at)) (omega (arith, less)) ∙ sym (outermost_further uri scope first e)

  pub outermost_none : (scope : List Text) (first : Schema) → position_or_len (is_anchored table name) scope ≡ length scope → outermost table scope name first ≡ first
  outermost_none [] first none = refl
  outermost_none (uri ∷ scope) first none = by (outermost_none scope first) (is_anchored table name uri) refl none
    where
      by : (position_or_len (is_anchored table name) scope ≡ length scope → outermost table scope name first ≡ first)
          → (b : Bool) → is_anchored table name uri ≡ b → cond (not b) (1 + position_or_len (is_anchored table name) scope) 0 ≡ length (uri ∷ scope) → outermost table (uri ∷ scope) name first ≡ first
      by further true e none = absurd (omega (arith, none))
      by further false e none = outermost_further uri scope first e ∙ further (omega (arith, none))
