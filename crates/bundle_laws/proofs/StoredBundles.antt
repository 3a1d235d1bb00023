-- A bundle is stored by an empty registry that has room for it.
use Rattle.std.proofs.Common.{◌≡◌, ◌<◌, ◌≤◌, ◌++◌, ℕ, List, [], ◌∷◌, Bool, true, false, cond, not, Option, None, Ok, Err, option_map, nat_lt, length, refl, ap, ◌∙◌, arith}
use Rattle.std.proofs.lemmas.Bool.{ltb-true, ltb-false}
use Rattle.std.specs.List.{filter, list_any}
use Rattle.definitions.specs.Values.{Text, Value, nesting}
use Rattle.definitions.specs.Texts.{text, parsed_value}
use Rattle.definitions.specs.Faults.{Fault, bad_pattern, too_large, library_owned, taken, quota_documents, quota_bytes}
use Rattle.definitions.specs.Schemas.{Document, document_from}
use Rattle.definitions.specs.Lists.{option_list, first, when}
use Rattle.definitions.specs.Scanning.{scan_faults}
use Rattle.definitions.specs.Reach.{holds_resource, least}
use Rattle.definitions.specs.Registries.{Registry, is_in_library, stored, for_base, for_value, decision, put_into, put_refusal, body_value}
use Rattle.definitions.specs.Searches.{Search, is_regular}
use Rattle.definitions.specs.Documents.{resources_of, taken_uri, bytes_of}
use Rattle.definitions.specs.Tenants.{Tenant, empty_registry}
use Rattle.definition_laws.specs.Bundling.{AreWhole}
use Rattle.definition_laws.specs.Identities.{IsDefinite}
use Rattle.definition_laws.proofs.AcceptedDocuments.{first_none}
use Rattle.definition_laws.proofs.Bundled.{bundles_are_definite, bundles_keep_their_uri}
use Rattle.bundle_laws.specs.Standing.{IsBundle, BundlesAreStored}
use Rattle.bundle_laws.proofs.RegisteredDocuments.{identified_documents_are_whole}
use Rattle.bundle_laws.proofs.ReadBack.{text_read_back}
use Rattle.bundle_laws.proofs.Passing.{IsSized, bundle_from_documents, bundles_pass_the_scan, bundles_are_regular}

not_below : (a b : ℕ) → b ≤ a → nat_lt a b ≡ false
not_below a b l = by (nat_lt a b) refl
  where
    by : (c : Bool) → nat_lt a b ≡ c → c ≡ false
    by true e = absurd (omega (arith, ltb-true a b e))
    by false e = refl

none_held : (us : List Text) → filter (λ u. list_any (holds_resource u) []) us ≡ []
none_held [] = refl
none_held (u ∷ us) = none_held us

pub no_refusal : (faults : List Fault) (regular owned : Bool) (uri : Option Text) (many large : Bool) → faults ≡ [] → regular ≡ true → owned ≡ false → uri ≡ None → many ≡ false → large ≡ false
    → first (faults ++ (when (not regular) bad_pattern ++ (when owned library_owned ++ (option_list (option_map taken uri) ++ (when many quota_documents ++ when large quota_bytes))))) ≡ None
no_refusal faults regular owned uri many large a b c d e f = rw (a, b, c, d, e, f) refl

module _ (search : Search) (ds : List Document) (uri : Text) (v : Value) (b : IsBundle search ds uri v) where
  whole : AreWhole ds
  whole = identified_documents_are_whole search ds b.documents b.linked

  sized : IsSized v
  sized = (bundle_from_documents search ds uri v b).within

  body_read : body_value (text v) ≡ Ok v
  body_read =
      let definite : IsDefinite v = bundles_are_definite ds uri v whole b.made in
      let shallow : nesting v ≤ 120 = ltb-false 120 (nesting v) sized.shallow in
      ap (λ c. cond c (Err too_large) (parsed_value (text v))) sized.short ∙ text_read_back v definite.well_formed (omega arith)

  accepted : (base : Text) (t : Tenant) → 0 < t.most_documents → length (text v) ≤ t.most_bytes → put_refusal search (empty_registry [] t) (document_from base v) (document_from base v ∷ []) ≡ None
  accepted base t few small =
      let d : Document = document_from base v in
      let within : bytes_of (d ∷ []) ≤ t.most_bytes = omega arith in
      no_refusal (scan_faults base v) (is_regular search v) (is_in_library (empty_registry [] t) d.canonical) (taken_uri [] d) (nat_lt t.most_documents (length (d ∷ []))) (nat_lt t.most_bytes (bytes_of (d ∷ [])))
      (first_none (scan_faults base v) (bundles_pass_the_scan search ds uri base v b)) (bundles_are_regular search ds uri v b) refl (ap least (none_held (resources_of d)))
      (not_below t.most_documents (length (d ∷ [])) (omega arith)) (not_below t.most_bytes (bytes_of (d ∷ [])) within)

pub bundles_are_stored : BundlesAreStored
bundles_are_stored search ds uri at base v t b form few small =
    let g : Registry = empty_registry [] t in
    let d : Document = document_from base v in
    let canonical : d.canonical ≡ uri = bundles_keep_their_uri ds uri base v (whole search ds uri v b) b.made in
    ap (λ r. for_base g r (λ c. for_value g (body_value (text v)) (λ x. put_into search g (document_from c x)))) form
    ∙ ap (λ r. for_value g r (λ x. put_into search g (document_from base x))) (body_read search ds uri v b)
    ∙ ap (λ o. decision o (stored d.canonical false) (record g { documents = d ∷ [] }) g) (accepted search ds uri v b base t few small)
    ∙ ap (λ u. (stored u false, record g { documents = d ∷ [] })) canonical
