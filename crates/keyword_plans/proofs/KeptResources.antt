-- What was asked of resources stays right under the numbers of their texts.
use Rattle.std.proofs.Common.{◌≡◌, ℕ, Bor, Option, Result, Some, nat_cmp, option_map, slice_get, sym, ap₂, subst, ◌∙◌}
use Rattle.std.proofs.lemmas.Map.Lookups.{exact_pairs, exact_unsigned}
use Rattle.std.proofs.lemmas.Option.{same_Some}
use Rattle.std.specs.BTreeMap.{BTreeMap, IsUnchanged, Updates, get}
use Rattle.std.specs.Option.{IfSome}
use Rattle.std.specs.Result.{OnErr, OnOk}
use Rattle.definitions.specs.Schemas.{Schema}
use Rattle.definitions.specs.Targets.{schema_with_dynamic_anchor}
use Rattle.definitions.specs.Values.{Text}
use Rattle.linker.specs.LinkedDocuments.{linked_schemas}
use Rattle.linker.specs.NumberedTexts.{AreNumberedTexts, numbered_texts, number_of_text}
use Rattle.linker.specs.declared.linked.Linked.{Linked}
use Rattle.linker.specs.declared.linked_texts.LinkedTexts.{LinkedTexts}
use Rattle.keyword_plans.specs.Held.{parts_cmp}
use Rattle.keyword_plans.specs.Followed.{target_view}
use Rattle.keyword_plans.specs.LinkedResources.{HasAnchor, HasResource}
use Rattle.keyword_plans.specs.OpenedResources.{AreAnchored, AreDocuments, AreOpened, IsAnchored, IsDocument, IsOpened}
use Rattle.linker.specs.OpenedSchemas.{Opens}
use Rattle.keyword_plans.specs.declared.target.Target.{Target}
use Rattle.keyword_plans.proofs.KeptByNumber.{right_after}

-- ---- what an `$id` opens
opened_once : (l : Linked) (t : LinkedTexts) (numbers : ℕ × ℕ) (around id : Text) (uri : Bor Text) → slice_get (numbered_texts t) numbers.0 ≡ Some around
    → slice_get (numbered_texts t) numbers.1 ≡ Some id → ((s : Schema) → Opens l s around id → uri.now ≡ s.resource) → IsOpened l t numbers uri
opened_once l t numbers around id uri first second right s other_around other_id e f opens =
    right s (subst (λ a. Opens l s a id) (same_Some _ _ (sym e ∙ first)) (subst (λ i. Opens l s other_around i) (same_Some _ _ (sym f ∙ second)) opens))

pub opened_after : {E : Type 0} (l : Linked) (t : LinkedTexts) (old new : BTreeMap (ℕ × ℕ) (Bor Text)) (numbers : ℕ × ℕ) (around id : Text) (uri : Bor Text) (r : Result (Option (Bor Text)) E)
    → AreOpened l t old → OnOk r (Updates parts_cmp old new numbers (Some uri)) → OnErr r (IsUnchanged old new) → slice_get (numbered_texts t) numbers.0 ≡ Some around
    → slice_get (numbered_texts t) numbers.1 ≡ Some id → ((s : Schema) → Opens l s around id → uri.now ≡ s.resource) → AreOpened l t new
opened_after l t old new numbers around id uri r are updated same first second right =
    right_after parts_cmp (exact_pairs nat_cmp nat_cmp exact_unsigned exact_unsigned) (IsOpened l t) old new numbers uri r are updated same
    (opened_once l t numbers around id uri first second right)

pub opened_found : (l : Linked) (t : LinkedTexts) (kept : BTreeMap (ℕ × ℕ) (Bor Text)) (around id : Text) (uri : Bor Text) (s : Schema) → AreNumberedTexts l t → AreOpened l t kept
    → get parts_cmp kept (number_of_text t around, number_of_text t id) ≡ Some uri → slice_get (numbered_texts t) (number_of_text t around) ≡ Some around → Opens l s around id → uri.now ≡ s.resource
opened_found l t kept around id uri s are_numbered are there known opens =
    subst (λ o. IfSome o (IsOpened l t (number_of_text t around, number_of_text t id))) there (are (number_of_text t around, number_of_text t id)) s around id known
    (are_numbered.identifiers s id opens.inside opens.root opens.has) opens

-- ---- the document of a resource
document_once : (l : Linked) (t : LinkedTexts) (number document : ℕ) (uri : Text) → slice_get (numbered_texts t) number ≡ Some uri → IsDocument l uri (Some document)
    → (other : Text) → slice_get (numbered_texts t) number ≡ Some other → IsDocument l other (Some document)
document_once l t number document uri at is other e = subst (λ u. IsDocument l u (Some document)) (same_Some _ _ (sym at ∙ e)) is

pub document_after : {E : Type 0} (l : Linked) (t : LinkedTexts) (old new : BTreeMap ℕ ℕ) (number document : ℕ) (uri : Text) (r : Result (Option ℕ) E) → AreDocuments l t old
    → OnOk r (Updates nat_cmp old new number (Some document)) → OnErr r (IsUnchanged old new) → slice_get (numbered_texts t) number ≡ Some uri → IsDocument l uri (Some document)
    → AreDocuments l t new
document_after l t old new number document uri r are updated same at is =
    right_after nat_cmp exact_unsigned (λ n d. (other : Text) → slice_get (numbered_texts t) n ≡ Some other → IsDocument l other (Some d)) old new number document r are updated same
    (document_once l t number document uri at is)

pub document_found : (l : Linked) (t : LinkedTexts) (kept : BTreeMap ℕ ℕ) (uri : Text) (document : ℕ) → AreDocuments l t kept → get nat_cmp kept (number_of_text t uri) ≡ Some document
    → slice_get (numbered_texts t) (number_of_text t uri) ≡ Some uri → IsDocument l uri (Some document)
document_found l t kept uri document are there known =
    subst (λ o. IfSome o (λ d. (other : Text) → slice_get (numbered_texts t) (number_of_text t uri) ≡ Some other → IsDocument l other (Some d))) there (are (number_of_text t uri)) uri known

-- ---- the schema with a dynamic anchor in a resource
anchored_once : (l : Linked) (t : LinkedTexts) (numbers : ℕ × ℕ) (uri name : Text) (found : Option Target) → slice_get (numbered_texts t) numbers.0 ≡ Some uri
    → slice_get (numbered_texts t) numbers.1 ≡ Some name → option_map target_view found ≡ schema_with_dynamic_anchor (linked_schemas l) uri name → IsAnchored l t numbers found
anchored_once l t numbers uri name found first second is other_uri other_name e f =
    is ∙ ap₂ (schema_with_dynamic_anchor (linked_schemas l)) (same_Some _ _ (sym first ∙ e)) (same_Some _ _ (sym second ∙ f))

pub anchored_after : {E : Type 0} (l : Linked) (t : LinkedTexts) (old new : BTreeMap (ℕ × ℕ) (Option Target)) (numbers : ℕ × ℕ) (uri name : Text) (found : Option Target)
    (r : Result (Option (Option Target)) E) → AreAnchored l t old → OnOk r (Updates parts_cmp old new numbers (Some found)) → OnErr r (IsUnchanged old new)
    → slice_get (numbered_texts t) numbers.0 ≡ Some uri → slice_get (numbered_texts t) numbers.1 ≡ Some name
    → option_map target_view found ≡ schema_with_dynamic_anchor (linked_schemas l) uri name → AreAnchored l t new
anchored_after l t old new numbers uri name found r are updated same first second is =
    right_after parts_cmp (exact_pairs nat_cmp nat_cmp exact_unsigned exact_unsigned) (IsAnchored l t) old new numbers found r are updated same
    (anchored_once l t numbers uri name found first second is)

pub anchored_found : (l : Linked) (t : LinkedTexts) (kept : BTreeMap (ℕ × ℕ) (Option Target)) (uri name : Text) (found : Option Target) → AreNumberedTexts l t → AreAnchored l t kept
    → get parts_cmp kept (number_of_text t uri, number_of_text t name) ≡ Some found → HasResource l uri → HasAnchor l name
    → option_map target_view found ≡ schema_with_dynamic_anchor (linked_schemas l) uri name
anchored_found l t kept uri name found are_numbered are there resource anchor =
    let known : slice_get (numbered_texts t) (number_of_text t uri) ≡ Some uri =
    subst (λ u. slice_get (numbered_texts t) (number_of_text t u) ≡ Some u) resource.2 (are_numbered.resources resource.0 resource.1) in
    subst (λ o. IfSome o (IsAnchored l t (number_of_text t uri, number_of_text t name))) there (are (number_of_text t uri, number_of_text t name)) uri name known
    (are_numbered.anchors name anchor)
