-- Alike tables give the same outcomes, by the number of applications that may still nest.
use Rattle.std.proofs.Common.{◌≡◌, ◌&&◌, ℕ, zero, suc, List, [], ◌∷◌, Bool, true, false, cond, Option, Some, None, refl, sym, ap, ap₂, subst, ◌∙◌, ◌⊎◌, inl, inr}
use Rattle.std.specs.List.{list_any}
use Rattle.definitions.specs.Values.{Text, Value, null, boolean, integer, string, array, object}
use Rattle.definitions.specs.Alike.{IsAlikeSchema, IsAlike, AreAlike}
use Rattle.definitions.specs.Keywords.{Keyword, keywords}
use Rattle.definitions.specs.Schemas.{Schema, Document, same_identity, references, table_of}
use Rattle.definitions.specs.Answers.{first_application, answer_of, answer_from, rules_of}
use Rattle.definitions.specs.Limits.{limits}
use Rattle.definitions.specs.Targets.{resource_root, target, schema_with_dynamic_anchor}
use Rattle.definitions.specs.Applied.{Application, Outcome, Rules, application_within}
use Rattle.definitions.specs.Outcomes.{outcome, schema_outcome, object_outcome, boolean_outcome, false_unit, leaf, is_running, same_location}
use Rattle.definition_laws.specs.Likeness.{AlikeTablesGiveTheSame, AlikeTablesAnswerTheSame}
use Rattle.definition_laws.proofs.Occurrences.{IsIn, in_from_contains, contains_from_in, in_append, found_in}
use Rattle.definition_laws.proofs.Unbundled.{as_truth, as_truth_alike, is_object_alike}
use Rattle.definition_laws.proofs.Tables.{IsClosed, table_closed, step_closed, target_held, dynamically_anchored_in}
use Rattle.definition_laws.proofs.Targets.{alike_resource, alike_pointer, AlikeIn, alike_in, AnchorsAlike, dynamic_alike}
use Rattle.definition_laws.proofs.Applying.{of_schema, IsSetting}
use Rattle.definition_laws.proofs.Gathering.{object_same}

-- ---- what is used of two alike tables
record AreAlikeTables (table other : List Schema) : Type 0 where
  pub closed : IsClosed table
  pub targets : (s : Schema) (r : Text) → IsIn s table → IsIn r (references s) → AlikeIn table (target table r) (target other r)
  pub anchors : (s : Schema) (name : Text) → IsIn s table → AlikeIn table (schema_with_dynamic_anchor table s.resource name) (schema_with_dynamic_anchor other s.resource name)

-- each URI of the scope is that of a schema
abbrev IsScope : List Schema → List Text → Type 0
IsScope table scope = (uri : Text) → IsIn uri scope → (s : Schema) × IsIn s table × (s.resource ≡ uri)

entered_scope : (table : List Schema) (a : Application) → IsIn a.schema table → IsScope table a.scope → IsScope table (application_within a).scope
entered_scope table a i h uri j = by (in_append a.scope (a.schema.resource ∷ []) uri j)
  where
    by : IsIn uri a.scope ⊎ IsIn uri (a.schema.resource ∷ []) → (s : Schema) × IsIn s table × (s.resource ≡ uri)
    by (inl k) = h uri k
    by (inr (inl e)) = (a.schema, i, e)
    by (inr (inr k)) = absurd k

scope_anchors : (table other : List Schema) (scope : List Text) → AreAlikeTables table other → IsScope table scope → AnchorsAlike table other scope
scope_anchors table other scope l h uri i name =
    let r = h uri i in
    subst (λ u. AlikeIn table (schema_with_dynamic_anchor table u name) (schema_with_dynamic_anchor other u name)) r.2 (l.anchors r.0 name r.1)

-- ---- a schema of any kind
chosen : Option Bool → Application → Outcome → Outcome
chosen None a o = o
chosen (Some b) a o = boolean_outcome a b

schema_is : (rules : Rules) (run : Application → Outcome) (a : Application) (v : Value) → schema_outcome rules run a v ≡ chosen (as_truth v) a (object_outcome rules run a)
unfolding chosen
schema_is rules run a (boolean b) = refl
schema_is rules run a null = refl
schema_is rules run a (integer z) = refl
schema_is rules run a (string s) = refl
schema_is rules run a (array vs) = refl
schema_is rules run a (object ms) = refl

boolean_same : (a : Application) (t : Schema) (b : Bool) → IsAlikeSchema a.schema t → boolean_outcome (of_schema a t) b ≡ boolean_outcome a b
boolean_same a t b h =
    ap (λ u. record { valid = b; names = []; indexes = []; errors = cond b [] (u ∷ []); annotations = []; count = 1; looped = false; deep = false })
    (ap₂ (λ r p. record { path = a.path; resource = r; pointer = p; instance_location = a.instance_location.pointer; says = (false_unit a).says }) (alike_resource a.schema t h) (alike_pointer a.schema t h))

chosen_same : (a : Application) (t : Schema) (o : Option Bool) (x : Outcome) → IsAlikeSchema a.schema t → chosen o (of_schema a t) x ≡ chosen o a x
unfolding chosen
chosen_same a t None x h = refl
chosen_same a t (Some b) x h = boolean_same a t b h

running_same : (a : Application) (t : Schema) → IsAlikeSchema a.schema t → is_running (of_schema a t) ≡ is_running a
running_same a t h =
    ap₂ (λ b i. b && list_any (λ e. same_identity e.0 i && same_location e.1 a.instance_location) a.running) (is_object_alike a.schema.value t.value h.1) (h.0)

schema_same : (rules others : Rules) (run again : Application → Outcome) (a : Application) (t : Schema) → IsAlikeSchema a.schema t
    → object_outcome others again (of_schema a t) ≡ object_outcome rules run a → schema_outcome others again (of_schema a t) t.value ≡ schema_outcome rules run a a.schema.value
schema_same rules others run again a t h e =
    schema_is others again (of_schema a t) t.value
    ∙ ap₂ (λ o x. chosen o (of_schema a t) x) (as_truth_alike a.schema.value t.value h.1) e
    ∙ chosen_same a t (as_truth a.schema.value) (object_outcome rules run a) h
    ∙ sym (schema_is rules run a a.schema.value)

-- ---- applied in the same way
outcome_same : (rules : Rules) (table other : List Schema) → AreAlikeTables table other → ((k : Keyword) → IsIn k rules.keywords → IsIn k keywords) → (n : ℕ) (a : Application) (t : Schema)
    → IsIn a.schema table → IsAlikeSchema a.schema t → IsScope table a.scope
    → outcome (record rules { schemas = other }) n (of_schema a t) ≡ outcome (record rules { schemas = table }) n a
unfolding outcome
outcome_same rules table other l rows zero a t i h s = ap (λ b. cond b (leaf true false) (leaf false true)) (running_same a t h)
outcome_same rules table other l rows (suc n) a t i h s =
    let run = outcome (record rules { schemas = table }) n in
    let again = outcome (record rules { schemas = other }) n in
    let scope : IsScope table (application_within a).scope = entered_scope table a i s in
    let setting : IsSetting table other run again (application_within a) t = record {
      alike = h;
      steps = λ u way step. step_closed table l.closed a.schema u way i step;
      runs = λ b u j k e. outcome_same rules table other l rows n b u j k (subst (IsScope table) (sym e) scope);
      targets = λ r j. l.targets a.schema r i j;
      dynamic_targets = λ r j. dynamic_alike table other (application_within a).scope r (scope_anchors table other (application_within a).scope l scope) (l.targets a.schema r i j);
    } in
    ap₂ (λ b o. cond b (leaf true false) o) (running_same a t h)
    (schema_same (record rules { schemas = table }) (record rules { schemas = other }) run again a t h (object_same table other run again a t setting rules rows))

-- ---- the law
alike_tables : (ds es : List Document) → IsAlike (table_of ds) (table_of es) → AreAlikeTables (table_of ds) (table_of es)
alike_tables ds es l =
    let table : List Schema = table_of ds in
    let other : List Schema = table_of es in
    let closed : IsClosed table = table_closed ds in
    record {
      closed = closed;
      targets = λ s r i j. alike_in table (target table r) (target other r) (l.targets s r (contains_from_in table s i) (contains_from_in (references s) r j)).1 (target_held table closed r);
      anchors = λ s name i.
          alike_in table (schema_with_dynamic_anchor table s.resource name) (schema_with_dynamic_anchor other s.resource name) (l.dynamic_anchors s name (contains_from_in table s i))
          (dynamically_anchored_in table s.resource name);
    }

pub alike_tables_give_the_same : AlikeTablesGiveTheSame
alike_tables_give_the_same rules ds es rows l n a t i h s =
    let table : List Schema = table_of ds in
    let scope : IsScope table a.scope = λ uri j. let r = s uri (contains_from_in a.scope uri j) in (r.0, in_from_contains table r.0 (r.1).0, (r.1).1) in
    outcome_same rules table (table_of es) (alike_tables ds es l) (λ k j. in_from_contains keywords k (rows k (contains_from_in rules.keywords k j))) n a t (in_from_contains table a.schema i) h scope

root_answers : (matches : Text → Text → Bool) (ds es : List Document) (x : Value) → IsAlike (table_of ds) (table_of es) → (o p : Option Schema) → AreAlike o p → ((s : Schema) → o ≡ Some s → IsIn s (table_of ds))
    → answer_from limits (rules_of matches es) x p ≡ answer_from limits (rules_of matches ds) x o
root_answers matches ds es x l None None h held = refl
root_answers matches ds es x l None (Some t) h held = absurd h
root_answers matches ds es x l (Some s) None h held = absurd h
root_answers matches ds es x l (Some s) (Some t) h held =
    ap (answer_of limits.applications)
    (alike_tables_give_the_same (rules_of matches []) ds es (λ k j. j) l limits.nested_applications (first_application s x) t (contains_from_in (table_of ds) s (held s refl)) h
    (λ uri j. absurd (in_from_contains [] uri j)))

pub alike_tables_answer_the_same : AlikeTablesAnswerTheSame
alike_tables_answer_the_same matches ds es uri x l h =
    root_answers matches ds es x l (resource_root (table_of ds) uri) (resource_root (table_of es) uri) h (λ s e. found_in _ (table_of ds) s e)
