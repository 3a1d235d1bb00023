-- The walk of the definitions finds the missteps of the value.
use Rattle.std.proofs.Common.{◌≡◌, ◌<◌, ℕ, zero, suc, ◌+◌, List, [], ◌∷◌, ◌++◌, map, length, Bool, true, false, cond, ◌||◌, ◌==◌, Option, Some, None, option_map, unwrap_or, decimal, refl, sym, ap, ap₂, ◌∙◌, arith, append_assoc, append-nil}
use Rattle.std.proofs.lemmas.Grind.{flat_map-append}
use Rattle.std.proofs.lemmas.List.{map-append}
use Rattle.std.specs.List.{flat_map, enumerate_from}
use Rattle.definitions.specs.Values.{Text, Value, null, array, object, Elements, no_elements, element, elements_list, Members, no_members, member, members, members_list, nesting, elements_nesting, members_nesting}
use Rattle.definitions.specs.Pointers.{Pointer, pointer_text}
use Rattle.definitions.specs.Faults.{Fault, bad_keyword}
use Rattle.definitions.specs.Shapes.{Shape, any_value, one_schema, schema_list, schema_map, identifier}
use Rattle.definitions.specs.Keywords.{Keyword, keywords, keyword_named, shape_in}
use Rattle.definitions.specs.Schemas.{Schema, schema_at, below, at_place, is_root}
use Rattle.definitions.specs.Scanning.{shape_faults, keyword_faults, subtree_faults}
use Rattle.definitions.specs.Lists.{unless}
use Rattle.keywords.specs.Rows.{shape_named}
use Rattle.schema_table.specs.Spots.{resource_of, opens_resource}
use Rattle.schema_table.specs.Missteps.{Misstep, wrong_shape, misstep_fault, deeper, below_name, is_as_asked, misstep_at, shape_missteps, own_missteps, missteps, missteps_below, missteps_at, missteps_in_list, missteps_in_map}
use Rattle.keywords.proofs.Names.{shape_named-row}
use Rattle.schema_table.proofs.Opened.{value-at, resource-at, is_root-at, not_empty}

-- ---- a schema's own keywords
unless-misstep : (b : Bool) (way : Pointer) (m : Misstep) → unless b (misstep_fault way m) ≡ map (misstep_fault way) (cond b [] (m ∷ []))
unless-misstep true way m = refl
unless-misstep false way m = refl

shape_faults-missteps : (shape : Shape) (base : Text) (way : Pointer) (s : Schema) (name : Text) (v : Value)
    → shape_faults shape base (way ++ name ∷ []) s v ≡ map (misstep_fault way) (shape_missteps shape base (is_root s) name v)
unfolding shape_missteps
shape_faults-missteps identifier base way s name v = unless-misstep (is_as_asked identifier base (is_root s) v) way (misstep_at identifier name)
shape_faults-missteps shape base way s name v = unless-misstep (is_as_asked shape base (is_root s) v) way (misstep_at shape name)

abbrev shape_of_row : Option Keyword → Shape
shape_of_row k = unwrap_or (option_map (λ r. r.shape) k) any_value

keyword_faults-missteps : (k : Option Keyword) (base : Text) (way : Pointer) (s : Schema) (name : Text) (v : Value)
    → keyword_faults k base (way ++ name ∷ []) s v ≡ map (misstep_fault way) (shape_missteps (shape_of_row k) base (is_root s) name v)
unfolding shape_missteps
keyword_faults-missteps None base way s name v = refl
keyword_faults-missteps (Some k) base way s name v = shape_faults-missteps k.shape base way s name v

own_faults : (base : Text) (way : Pointer) (s : Schema) (ms : Members)
    → flat_map (λ m. keyword_faults (keyword_named m.0 keywords) base (way ++ m.0 ∷ []) s m.1) (members_list ms) ≡ map (misstep_fault way) (own_missteps base (is_root s) ms)
own_faults base way s no_members = refl
own_faults base way s (member name v ms) =
    ap₂ (λ a b. a ++ b)
    (keyword_faults-missteps (keyword_named name keywords) base way s name v ∙ ap (λ k. map (misstep_fault way) (shape_missteps k base (is_root s) name v)) (shape_named-row name))
    (own_faults base way s ms)
    ∙ sym (map-append (misstep_fault way) (shape_missteps (shape_named name) base (is_root s) name v) (own_missteps base (is_root s) ms))

-- ---- its subschemas
fault-deeper : (way : Pointer) (name : Text) (m : Misstep) → misstep_fault (way ++ name ∷ []) m ≡ misstep_fault way (deeper name m)
fault-deeper way name (wrong_shape p) = ap (λ q. bad_keyword (pointer_text q)) (append_assoc way (name ∷ []) p)
fault-deeper way name _ = refl

faults-deeper : (way : Pointer) (name : Text) (ms : List Misstep) → map (misstep_fault (way ++ name ∷ [])) ms ≡ map (misstep_fault way) (below_name name ms)
faults-deeper way name [] = refl
faults-deeper way name (m ∷ ms) = ap₂ (λ a b. a ∷ b) (fault-deeper way name m) (faults-deeper way name ms)

-- a single schema
pub one-missteps : (base : Text) (v : Value) → missteps_at one_schema base v ≡ missteps base false v
one-missteps base (object ms) = refl
one-missteps base _ = refl

-- what so many levels find, at every schema that nests less deep
abbrev Finds : ℕ → Type 0
Finds n = (base : Text) (way p : Pointer) (v : Value) (at_root : Bool) → (length p == 0) ≡ at_root → nesting v < n
    → subtree_faults n base way (schema_at base p v) ≡ map (misstep_fault way) (missteps base at_root v)

module _ (n : ℕ) (finds : Finds n) (way : Pointer) (s : Schema) where
  abbrev found_below : Pointer × Schema → List Fault
  found_below t = subtree_faults n s.resource (way ++ t.0) t.1

  -- below this name, with one token more
  found : (name token : Text) (v : Value) → nesting v < n
      → found_below (name ∷ token ∷ [], below s (name ∷ token ∷ []) v) ≡ map (misstep_fault (way ++ name ∷ [])) (below_name token (missteps s.resource false v))
  found name token v h =
      finds s.resource (way ++ name ∷ token ∷ []) (s.pointer ++ name ∷ token ∷ []) v false (not_empty s.pointer name (token ∷ [])) h
      ∙ ap (λ w. map (misstep_fault w) (missteps s.resource false v)) (sym (append_assoc way (name ∷ []) (token ∷ [])))
      ∙ faults-deeper (way ++ name ∷ []) token (missteps s.resource false v)

  map_faults : (name : Text) (ms : Members) → members_nesting ms < n
      → flat_map found_below (map (λ m. (name ∷ m.0 ∷ [], below s (name ∷ m.0 ∷ []) m.1)) (members_list ms)) ≡ map (misstep_fault (way ++ name ∷ [])) (missteps_in_map s.resource ms)
  map_faults name no_members h = refl
  map_faults name (member key v ms) h =
      ap₂ (λ a b. a ++ b) (found name key v (omega arith)) (map_faults name ms (omega arith))
      ∙ sym (map-append (misstep_fault (way ++ name ∷ [])) (below_name key (missteps s.resource false v)) (missteps_in_map s.resource ms))

  list_faults : (name : Text) (i : ℕ) (vs : Elements) → elements_nesting vs < n
      → flat_map found_below (map (λ e. (name ∷ decimal e.0 ∷ [], below s (name ∷ decimal e.0 ∷ []) e.1)) (enumerate_from i (elements_list vs))) ≡ map (misstep_fault (way ++ name ∷ [])) (missteps_in_list s.resource i vs)
  list_faults name i no_elements h = refl
  list_faults name i (element v vs) h =
      ap₂ (λ a b. a ++ b) (found name (decimal i) v (omega arith)) (list_faults name (i + 1) vs (omega arith))
      ∙ sym (map-append (misstep_fault (way ++ name ∷ [])) (below_name (decimal i) (missteps s.resource false v)) (missteps_in_list s.resource (i + 1) vs))

  one_fault : (name : Text) (v : Value) → nesting v < n
      → flat_map found_below ((name ∷ [], below s (name ∷ []) v) ∷ []) ≡ map (misstep_fault (way ++ name ∷ [])) (missteps s.resource false v)
  one_fault name v h =
      append-nil (found_below (name ∷ [], below s (name ∷ []) v))
      ∙ finds s.resource (way ++ name ∷ []) (s.pointer ++ name ∷ []) v false (not_empty s.pointer name []) h

  at_faults : (shape : Shape) (name : Text) (v : Value) → nesting v < n
      → flat_map found_below (at_place s name v shape) ≡ map (misstep_fault (way ++ name ∷ [])) (missteps_at shape s.resource v)
  at_faults one_schema name v h = one_fault name v h ∙ ap (map (misstep_fault (way ++ name ∷ []))) (sym (one-missteps s.resource v))
  at_faults schema_list name (array vs) h = list_faults name 0 vs (omega arith)
  at_faults schema_map name (object ms) h = map_faults name ms (omega arith)
  at_faults _ name _ h = refl

  below_faults : (ms : Members) → members_nesting ms < n
      → flat_map found_below (flat_map (λ m. at_place s m.0 m.1 (shape_in keywords m.0)) (members_list ms)) ≡ map (misstep_fault way) (missteps_below s.resource ms)
  below_faults no_members h = refl
  below_faults (member name v ms) h =
      flat_map-append found_below (at_place s name v (shape_in keywords name)) (flat_map (λ m. at_place s m.0 m.1 (shape_in keywords m.0)) (members_list ms))
      ∙ ap₂ (λ a b. a ++ b)
      (at_faults (shape_in keywords name) name v (omega arith)
      ∙ ap (λ k. map (misstep_fault (way ++ name ∷ [])) (missteps_at k s.resource v)) (shape_named-row name)
      ∙ faults-deeper way name (missteps_at (shape_named name) s.resource v))
      (below_faults ms (omega arith))
      ∙ sym (map-append (misstep_fault way) (below_name name (missteps_at (shape_named name) s.resource v)) (missteps_below s.resource ms))

level_faults : (n : ℕ) → Finds n → (base : Text) (way p : Pointer) (v : Value) (at_root : Bool) → (length p == 0) ≡ at_root → nesting v < suc n
    → (flat_map (λ m. keyword_faults (keyword_named m.0 keywords) base (way ++ m.0 ∷ []) (schema_at base p v) m.1) (members v)
    ++ flat_map (λ t. subtree_faults n (schema_at base p v).resource (way ++ t.0) t.1) (flat_map (λ m. at_place (schema_at base p v) m.0 m.1 (shape_in keywords m.0)) (members v)))
    ≡ map (misstep_fault way) (missteps base at_root v)
level_faults n finds base way p (object ms) at_root e h =
    ap₂ (λ a b. a ++ b)
    (own_faults base way (schema_at base p (object ms)) ms ∙ ap (λ b. map (misstep_fault way) (own_missteps base b ms)) (is_root-at base p (object ms) at_root e))
    (below_faults n finds way (schema_at base p (object ms)) ms (omega arith) ∙ ap (λ r. map (misstep_fault way) (missteps_below r ms)) (resource-at base p (object ms)))
    ∙ sym (map-append (misstep_fault way) (own_missteps base (at_root || opens_resource (object ms)) ms) (missteps_below (resource_of base (object ms)) ms))
level_faults n finds base way p null at_root e h = refl
level_faults n finds base way p _ at_root e h = refl

pub walked-missteps : (n : ℕ) → Finds n
walked-missteps zero base way p v at_root e h = absurd (omega arith)
walked-missteps (suc n) base way p v at_root e h =
    ap (λ u. flat_map (λ m. keyword_faults (keyword_named m.0 keywords) base (way ++ m.0 ∷ []) (schema_at base p v) m.1) (members u)
    ++ flat_map (λ t. subtree_faults n (schema_at base p v).resource (way ++ t.0) t.1) (flat_map (λ m. at_place (schema_at base p v) m.0 m.1 (shape_in keywords m.0)) (members u))) (value-at base p v)
    ∙ level_faults n (walked-missteps n) base way p v at_root e h

-- the walk over a document
pub document-missteps : (base : Text) (v : Value) → subtree_faults (suc (nesting v)) base [] (schema_at base [] v) ≡ map (misstep_fault []) (missteps base true v)
document-missteps base v = walked-missteps (suc (nesting v)) base [] [] v true refl (omega arith)
