-- The documents of a list source are sound.
use Rattle.std.proofs.Common.{◌≡◌, true, List, [], ◌∷◌, None, map, Contains, refl, subst, inl, inr}
use Rattle.std.proofs.lemmas.Bool.{and_parts}
use Rattle.std.specs.List.{list_all}
use Rattle.std.specs.Global.{Global}
use Rattle.std.specs.declared.rc.Rc.{Rc}
use Rattle.definitions.specs.Schemas.{Document, document_from}
use Rattle.definitions.specs.Scanning.{scan_fault}
use Rattle.lemmas.proofs.Options.{none_from_is_none}
use Rattle.definition_laws.proofs.Membership.{nothing_in, first_or_later}
use Rattle.schema_scan.specs.CompiledDocuments.{compiled_view}
use Rattle.schema_scan.specs.declared.compiled.Compiled.{Compiled}
use Rattle.linker.specs.SharedDocuments.{shared_documents}
use Rattle.definitions.specs.Documents.{AreSound, is_faultless}
use Rattle.linker.specs.ListedDocuments.{listed_documents}
use Rattle.linker.specs.declared.list_source.ListSource.{ListSource}

-- each is made of its base and its value
pub shared_made : (ds : List (Rc Compiled Global)) (d : Document) → Contains (shared_documents ds) d → d ≡ document_from d.base d.value
unfolding shared_documents
shared_made [] d c = absurd (nothing_in d c)
shared_made (x ∷ xs) d c = elim (first_or_later (compiled_view x.value) d (map (λ (y : Rc Compiled Global). compiled_view y.value) xs) c) [
  | inl same ↦ subst (λ (e : Document). e ≡ document_from e.base e.value) same refl
  | inr later ↦ shared_made xs d later
]

pub all_faultless : (ds : List Document) → list_all is_faultless ds ≡ true → (d : Document) → Contains ds d → scan_fault d.base d.value ≡ None
all_faultless [] h d c = absurd (nothing_in d c)
all_faultless (e ∷ es) h d c =
    let parts = and_parts (is_faultless e) (list_all is_faultless es) h in
    elim (first_or_later e d es c) [
      | inl same ↦ subst (λ (x : Document). scan_fault x.base x.value ≡ None) same (none_from_is_none (scan_fault e.base e.value) parts.0)
      | inr later ↦ all_faultless es parts.1 d later
    ]

pub listed_sound : (s : ListSource) → AreSound (listed_documents s)
listed_sound s = record {
  ascend = s.ascend;
  distinct = s.distinct;
  made = shared_made s.documents.items;
  faultless = all_faultless (listed_documents s) s.faultless;
}
