-- Linked documents are distinct, so that an identity names one of their schemas.
use Rattle.std.proofs.Common.{◌≡◌, List, [], ◌∷◌, Some, map, Contains, subst, ap, ◌∙◌, sym, inl, inr}
use Rattle.std.specs.Global.{Global}
use Rattle.std.specs.declared.rc.Rc.{Rc}
use Rattle.definitions.specs.Values.{Text}
use Rattle.definitions.specs.Fragments.{tokens}
use Rattle.definitions.specs.Pointers.{Pointer}
use Rattle.definitions.specs.Schemas.{Document, Schema, identity}
use Rattle.definitions.specs.Targets.{target_by}
use Rattle.definition_laws.specs.Identities.{IsDefinite, IsDistinct}
use Rattle.definition_laws.proofs.Membership.{nothing_in, first_or_later}
use Rattle.definition_laws.proofs.Roots.{schemas_pointed_to}
use Rattle.schema_scan.specs.CompiledDocuments.{compiled_value, compiled_view}
use Rattle.schema_scan.specs.declared.compiled.Compiled.{Compiled}
use Rattle.linker.specs.LinkedDocuments.{linked_documents, linked_schemas}
use Rattle.linker.specs.SharedDocuments.{shared_documents}
use Rattle.linker.specs.declared.linked.Linked.{Linked}
use Rattle.linker.proofs.ShortArrays.{held_short}

pub compiled_definite : (c : Compiled) → IsDefinite (compiled_value c)
unfolding compiled_value
compiled_definite c = record { well_formed = c.well_formed; short_arrays = held_short c.document }

-- what holds of each compiled document holds of those that are shared
pub shared_each : (P : Document → Type 0) → ((c : Compiled) → P (compiled_view c)) → (ds : List (Rc Compiled Global)) (d : Document) → Contains (shared_documents ds) d → P d
unfolding shared_documents
shared_each P each [] d c = absurd (nothing_in d c)
shared_each P each (x ∷ xs) d c = elim (first_or_later (compiled_view x.value) d (map (λ (y : Rc Compiled Global). compiled_view y.value) xs) c) [
  | inl same ↦ subst P same (each x.value)
  | inr later ↦ shared_each P each xs d later
]

linked_distinct : (l : Linked) → IsDistinct (linked_documents l)
unfolding linked_documents
linked_distinct l = record { uris = l.distinct; values = shared_each (λ d. IsDefinite d.value) compiled_definite l.documents.items }

pub one_named : (l : Linked) (uri : Text) (p : Pointer) (s : Schema) → Contains (linked_schemas l) s → identity s ≡ (uri, p) → target_by (linked_schemas l) uri (tokens p) ≡ Some s
one_named l uri p s inside same =
    ap (λ i. target_by (linked_schemas l) i.0 (tokens i.1)) (sym same) ∙ schemas_pointed_to (linked_documents l) (linked_distinct l) s inside
