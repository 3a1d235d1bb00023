-- The documents of a registry are such as a registry gets them, from request to request.
use Rattle.std.proofs.Common.{◌≡◌, ◌&&◌, List, [], ◌∷◌, true, Ok, Contains, refl, sym, ap, subst, ◌∙◌, inl, inr}
use Rattle.std.proofs.lemmas.Bool.{and_parts, and_from}
use Rattle.std.specs.List.{list_all}
use Rattle.std.specs.Str.{is_utf8}
use Rattle.definitions.specs.Batches.{library_of}
use Rattle.definitions.specs.Documents.{Ascend, documents_with}
use Rattle.definitions.specs.Keeping.{AreKept, IsKept}
use Rattle.definitions.specs.Limits.{limits}
use Rattle.definitions.specs.Patterns.{regular_search}
use Rattle.definitions.specs.Registries.{Registry, documents_seen, put_refusal, Request, Reply}
use Rattle.definitions.specs.Resolution.{base_form}
use Rattle.definitions.specs.Runs.{IsAnswer}
use Rattle.definitions.specs.Schemas.{Document, document_from}
use Rattle.definitions.specs.Searches.{Search}
use Rattle.definitions.specs.Steps.{step}
use Rattle.definitions.specs.Tenants.{Tenant, empty_registry}
use Rattle.definitions.specs.Uris.{split, is_identifier}
use Rattle.definitions.specs.Values.{Text, Value, is_well_formed}
use Rattle.definition_laws.specs.Keeping.{IsBodyValue, HaveBodyValues, IsBaseForm, HaveBaseForms}
use Rattle.definition_laws.specs.Reading.{has_arrays_within}
use Rattle.definition_laws.proofs.AcceptedDocuments.{accepted}
use Rattle.definition_laws.proofs.JoinedDocuments.{joined_alone}
use Rattle.definition_laws.proofs.KeptRegistries.{values_kept, bases_kept, library_kept}
use Rattle.definition_laws.proofs.Membership.{is_first, is_later}
use Rattle.definition_laws.proofs.Occurrences.{all_pass_in, in_from_contains}
use Rattle.definition_laws.proofs.PlacedDocuments.{from_placed}
use Rattle.definition_laws.proofs.ReadValues.{well_formed}
use Rattle.definition_laws.proofs.SeenDocuments.{puts}
use Rattle.definition_laws.proofs.Steps.{for_base_keeps, for_value_keeps, decided_keeps}
use Rattle.bundle_laws.specs.Registered.{AreRegistered, HaveBaseTexts, PutsText}
use Rattle.bundle_laws.proofs.BaseTexts.{steps_keep_base_texts, libraries_have_base_texts}
use Rattle.bundle_laws.proofs.CanonicalTexts.{base_form_text}
use Rattle.bundle_laws.proofs.Identified.{base_identifier, form_of_identifier}
use Rattle.tenant_hub.specs.PutBack.{restored_value, IsPutBack}
use Rattle.tenant_hub.specs.RegisteredDocuments.{is_registered}
use Rattle.tenant_hub.proofs.PutBack.{was_read}

-- ---- the test of a document
registered : (d : Document) → IsBodyValue d.value → IsBaseForm d.base → is_utf8 d.base ≡ true → is_registered d ≡ true
unfolding is_registered
registered d value form text =
    and_from (is_well_formed d.value && has_arrays_within limits.body_bytes d.value) (is_identifier (split d.base) && is_utf8 d.base)
    (and_from (is_well_formed d.value) (has_arrays_within limits.body_bytes d.value) value.well_formed value.short_arrays)
    (and_from (is_identifier (split d.base)) (is_utf8 d.base) (base_identifier d.base form) text)

record IsRegistered (d : Document) : Type 0 where
  value : IsBodyValue d.value
  form : IsBaseForm d.base
  text : is_utf8 d.base ≡ true

from_test : (d : Document) → is_registered d ≡ true → IsRegistered d
unfolding is_registered
from_test d e =
    let parts = and_parts (is_well_formed d.value && has_arrays_within limits.body_bytes d.value) (is_identifier (split d.base) && is_utf8 d.base) e in
    let values = and_parts (is_well_formed d.value) (has_arrays_within limits.body_bytes d.value) parts.0 in
    let bases = and_parts (is_identifier (split d.base)) (is_utf8 d.base) parts.1 in
    record { value = record { well_formed = values.0; short_arrays = values.1 }; form = record { uri = d.base; is = form_of_identifier d.base bases.0 }; text = bases.1 }

-- ---- of several
all_registered : (ds : List Document) → HaveBodyValues ds → HaveBaseForms ds → HaveBaseTexts ds → list_all is_registered ds ≡ true
all_registered [] values forms texts = refl
all_registered (d ∷ ds) values forms texts =
    and_from (is_registered d) (list_all is_registered ds)
    (registered d (values d (is_first d ds)) (forms d (is_first d ds)) (texts d (is_first d ds)))
    (all_registered ds (λ e c. values e (is_later d e ds c)) (λ e c. forms e (is_later d e ds c)) (λ e c. texts e (is_later d e ds c)))

each_registered : (ds : List Document) → list_all is_registered ds ≡ true → (d : Document) → Contains ds d → IsRegistered d
each_registered ds all d c = from_test d (all_pass_in is_registered ds d all (in_from_contains ds d c))

pub are_registered : (search : Search) (ds : List Document) → AreKept search ds → list_all is_registered ds ≡ true → AreRegistered search ds
are_registered search ds kept all = record {
  kept = kept;
  body_values = λ d c. (each_registered ds all d c).value;
  base_forms = λ d c. (each_registered ds all d c).form;
  base_texts = λ d c. (each_registered ds all d c).text;
}

-- ---- from request to request
pub still_registered : (g h : Registry) (q : Request) (r : Reply) → IsKept regular_search g → PutsText q → list_all is_registered (documents_seen g) ≡ true
    → IsAnswer regular_search g q r h → list_all is_registered (documents_seen h) ≡ true
still_registered g h q r kept text all (inl s) =
    let each = each_registered (documents_seen g) all in
    subst (λ i. list_all is_registered (documents_seen i) ≡ true) (sym s.1)
    (all_registered (documents_seen (step regular_search g q).1)
    (values_kept regular_search g q kept (λ d c. (each d c).value))
    (bases_kept regular_search g q kept (λ d c. (each d c).form))
    (steps_keep_base_texts regular_search g q kept text (λ d c. (each d c).text)))
still_registered g h q r kept text all (inr s) = subst (λ i. list_all is_registered (documents_seen i) ≡ true) (sym s.1) all

-- ---- a document that is put back
abbrev Holds : Registry → Type 0
Holds g = list_all is_registered (documents_seen g) ≡ true

back_registered : (uri text base : Text) (v : Value) → is_utf8 uri ≡ true → base_form uri ≡ Ok base → restored_value text ≡ Ok v → is_registered (document_from base v) ≡ true
back_registered uri text base v utf8 is_base restored =
    let read = was_read text v restored in
    registered (document_from base v) (record { well_formed = well_formed text v read.0; short_arrays = read.1 }) (record { uri = uri; is = is_base })
    (base_form_text uri base utf8 is_base)

all_are : (ds : List Document) → ((d : Document) → Contains ds d → is_registered d ≡ true) → list_all is_registered ds ≡ true
all_are [] each = refl
all_are (d ∷ ds) each = and_from (is_registered d) (list_all is_registered ds) (each d (is_first d ds)) (all_are ds (λ e c. each e (is_later d e ds c)))

pub restored_registered : (g h : Registry) (uri text : Text) (r : Reply) → is_utf8 uri ≡ true → list_all is_registered (documents_seen g) ≡ true
    → IsPutBack g uri text r h → list_all is_registered (documents_seen h) ≡ true
restored_registered g h uri text r utf8 all (inl s) =
    subst (λ i. list_all is_registered (documents_seen i) ≡ true) (sym s.1)
    (for_value_keeps Holds g (restored_value text) _ (λ v was_read. for_base_keeps Holds g (base_form uri) _ (λ b is_base.
    decided_keeps Holds (put_refusal regular_search g (document_from b v) (documents_with (document_from b v) g.documents)) _ _ g
    (λ none. all_are (documents_seen (record g { documents = documents_with (document_from b v) g.documents }))
    (λ d c. elim (from_placed (document_from b v) d (documents_seen g) (subst (λ ds. Contains ds d) (puts g (document_from b v) (accepted regular_search g (document_from b v) (documents_with (document_from b v) g.documents) none).unowned) c)) [
      | inl itself ↦ subst (λ x. is_registered x ≡ true) itself (back_registered uri text b v utf8 is_base was_read)
      | inr other ↦ all_pass_in is_registered (documents_seen g) d all (in_from_contains (documents_seen g) d other)
    ])) all) all) all)
restored_registered g h uri text r utf8 all (inr s) = subst (λ i. list_all is_registered (documents_seen i) ≡ true) (sym s.1) all

pub library_registered : (bytes : Text) (library : List Document) → library_of regular_search bytes ≡ Ok library → list_all is_registered library ≡ true
library_registered bytes library e =
    let kept = library_kept regular_search bytes library e in
    all_registered library kept.1.0 kept.1.1 (libraries_have_base_texts regular_search bytes library e)

pub first_registered : (g : Registry) (library : List Document) (t : Tenant) → g ≡ empty_registry library t → Ascend library → list_all is_registered library ≡ true
    → list_all is_registered (documents_seen g) ≡ true
first_registered g library t e ascend all =
    ap (λ h. list_all is_registered (documents_seen h)) e ∙ ap (list_all is_registered) (joined_alone library ascend) ∙ all
