-- Linked documents are as a bundle wants its documents.
use Rattle.std.proofs.Common.{◌≡◌, true, None, Ok, Contains, refl, sym, ap, ◌∙◌}
use Rattle.std.specs.Str.{is_utf8}
use Rattle.definitions.specs.Values.{Value, same_text}
use Rattle.definitions.specs.Lists.{has_repeat}
use Rattle.definitions.specs.Patterns.{regular_search}
use Rattle.definitions.specs.Schemas.{Document, document_from}
use Rattle.definitions.specs.Scanning.{scan_fault}
use Rattle.definitions.specs.Searches.{is_regular}
use Rattle.definitions.specs.Documents.{Ascend}
use Rattle.definitions.specs.Bundles.{bundle}
use Rattle.definition_laws.specs.Identities.{IsDefinite}
use Rattle.definition_laws.proofs.Resources.{table_uris}
use Rattle.bundle_laws.specs.Registered.{AreIdentified}
use Rattle.bundle_laws.proofs.CanonicalTexts.{canonical_uris_are_texts}
use Rattle.bundle_laws.proofs.Passing.{bundles_stand_alone}
use Rattle.json_doc.proofs.Entries.{string_is_utf8}
use Rattle.schema_scan.specs.CompiledDocuments.{compiled_base, compiled_value, compiled_view}
use Rattle.schema_scan.specs.declared.compiled.Compiled.{Compiled}
use Rattle.linker.specs.LinkedDocuments.{linked_uri, linked_documents}
use Rattle.linker.specs.SharedDocuments.{shared_documents}
use Rattle.linker.specs.declared.linked.Linked.{Linked}
use Rattle.bundler.specs.Alone.{HaveIdentifiers, AnswersAlone}
use Rattle.linker.proofs.Distinct.{compiled_definite, shared_each}

-- ---- a compiled document
compiled_scanned : (c : Compiled) → scan_fault (compiled_base c) (compiled_value c) ≡ None
unfolding compiled_base compiled_value
compiled_scanned c = c.faultless

compiled_regular : (c : Compiled) → is_regular regular_search (compiled_value c) ≡ true
unfolding compiled_value
compiled_regular c = c.regular

base_text : (c : Compiled) → is_utf8 (compiled_base c) ≡ true
unfolding compiled_base
base_text c = string_is_utf8 c.base

canonical_text : (c : Compiled) → is_utf8 (compiled_view c).canonical ≡ true
canonical_text c = canonical_uris_are_texts (compiled_base c) (compiled_value c) (base_text c) (compiled_definite c)

-- ---- those that are linked
pub linked_ascend : (l : Linked) → Ascend (linked_documents l)
unfolding linked_documents
linked_ascend l = l.ascend

pub linked_identified : (l : Linked) → HaveIdentifiers (linked_documents l) → AreIdentified regular_search (linked_documents l)
unfolding linked_documents
linked_identified l identifiers =
    let each : (P : Document → Type 0) → ((c : Compiled) → P (compiled_view c)) → (d : Document) → Contains (shared_documents l.documents.items) d → P d =
    λ P all. shared_each P all l.documents.items in
    record {
      kept = record {
        ordered = l.ascend;
        named = each (λ d. d ≡ document_from d.base d.value) (λ c. refl);
        distinct = ap (has_repeat same_text) (sym (table_uris (shared_documents l.documents.items))) ∙ l.distinct;
        scanned = each (λ d. scan_fault d.base d.value ≡ None) compiled_scanned;
        regular_patterns = each (λ d. is_regular regular_search d.value ≡ true) compiled_regular;
      };
      values = each (λ d. IsDefinite d.value) compiled_definite;
      identifiers = identifiers;
      texts = each (λ d. is_utf8 d.canonical ≡ true) canonical_text;
    }

pub answers_alone : (l : Linked) (v : Value) → bundle (linked_documents l) (linked_uri l) ≡ Ok v → AnswersAlone l v
unfolding AnswersAlone linked_documents
answers_alone l v made identifiers base =
    bundles_stand_alone regular_search (linked_documents l) (linked_uri l) base v (record { documents = linked_identified l identifiers; linked = l.whole; made = made })
