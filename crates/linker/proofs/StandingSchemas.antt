-- The document that a schema of linked documents stands in.
use Rattle.std.proofs.Common.{◌≡◌, ℕ, List, [], ◌∷◌, Option, Some, None, Contains, IfSome, find, is_some, length, option_and_then, refl, option_map, sym, ap, ap₂, ◌∙◌, subst, arith, append-nil, true}
use Rattle.std.proofs.lemmas.List.Elements.{Contains-get_or}
use Rattle.std.proofs.lemmas.Option.{get_or_from_slice_get, same_Some, slice_get-map, slice_get_within}
use Rattle.std.specs.Global.{Global}
use Rattle.std.specs.List.{slice_get}
use Rattle.std.specs.declared.rc.Rc.{Rc}
use Rattle.definitions.specs.Lists.{has_repeat}
use Rattle.definitions.specs.Reach.{holds_resource}
use Rattle.definitions.specs.Scanning.{resource_uris}
use Rattle.definitions.specs.Schemas.{Document, Schema, schemas_of, table_of}
use Rattle.definitions.specs.Values.{Text, same_text}
use Rattle.lemmas.proofs.Texts.{same_text_itself}
use Rattle.definition_laws.proofs.Membership.{found_some}
use Rattle.definition_laws.proofs.Repeats.{from_flat_map}
use Rattle.definition_laws.proofs.Resources.{one_document, table_uris}
use Rattle.schema_scan.specs.CompiledDocuments.{compiled_schemas, compiled_texts, compiled_view}
use Rattle.schema_scan.specs.declared.compiled.Compiled.{Compiled}
use Rattle.linker.specs.LinkedDocuments.{linked_documents, linked_schemas}
use Rattle.linker.specs.ReferenceNumbers.{StandsIn, document_at, pair_in, reference_pair}
use Rattle.linker.specs.SharedDocuments.{shared_documents}
use Rattle.linker.specs.declared.linked.Linked.{Linked}
use Rattle.linker.specs.declared.references.ReferenceNumber.{ReferenceNumber}
use Rattle.linker.proofs.CanonicalHolders.{first_holder}
use Rattle.linker.proofs.Tables.{found_holds, resource_held}

-- the only one
alone_among : (items : List (Rc Compiled Global)) (d : Compiled) (s : Schema) → length items ≡ 1 → option_map (λ (x : Rc Compiled Global). x.value) (slice_get items 0) ≡ Some d
    → Contains (table_of (shared_documents items)) s → Contains (compiled_schemas d) s
unfolding shared_documents
alone_among [] d s one at inside = absurd (omega (arith, one))
alone_among (x ∷ []) d s one at inside =
    subst (λ (e : Compiled). Contains (compiled_schemas e) s) (same_Some _ _ at) (subst (λ ss. Contains ss s) (append-nil (compiled_schemas x.value)) inside)
alone_among (x ∷ y ∷ ys) d s one at inside = absurd (omega (arith, one))

pub alone : (l : Linked) (s : Schema) → length l.documents.items ≡ 1 → Contains (linked_schemas l) s → StandsIn l s 0
unfolding linked_documents document_at
alone l s one inside d at = alone_among l.documents.items d s one at inside

-- the one that holds the resource
viewed : (o : Option (Rc Compiled Global)) (d : Compiled) → option_map (λ (x : Rc Compiled Global). x.value) o ≡ Some d → option_map (λ (x : Rc Compiled Global). compiled_view x.value) o ≡ Some (compiled_view d)
viewed None d e = absurd (cc)
viewed (Some x) d e = ap (λ (y : Compiled). Some (compiled_view y)) (same_Some _ _ e)

pub held : (l : Linked) (s : Schema) (uri : Text) (n : Option ℕ) → option_and_then (slice_get (linked_documents l)) n ≡ find (holds_resource uri) (linked_documents l)
    → Contains (linked_schemas l) s → s.resource ≡ uri → IfSome n (StandsIn l s)
unfolding linked_documents shared_documents document_at
held l s uri None e inside resource = tt
held l s uri (Some n) e inside resource = λ d at.
    let ds = linked_documents l in
    let found : find (holds_resource uri) ds ≡ Some (compiled_view d) =
    sym e ∙ slice_get-map (λ (x : Rc Compiled Global). compiled_view x.value) l.documents.items n ∙ viewed (slice_get l.documents.items n) d at in
    let there = found_holds ds uri (compiled_view d) found in
    let own = from_flat_map (λ (x : Document). schemas_of x.base x.value) s ds inside in
    let holds : holds_resource uri own.0 ≡ true = resource_held own.0 uri s own.1.1 (ap (same_text uri) resource ∙ same_text_itself uri) in
    let same : compiled_view d ≡ own.0 = one_document ds uri (compiled_view d) own.0 (ap (has_repeat same_text) (sym (table_uris ds)) ∙ l.distinct) there.0 own.1.0 there.1 holds in
    subst (λ (x : Document). Contains (schemas_of x.base x.value) s) (sym same) own.1.1

-- there is such a document
alone_at : (items : List (Rc Compiled Global)) → length items ≡ 1 → is_some (option_map (λ (x : Rc Compiled Global). x.value) (slice_get items 0)) ≡ true
alone_at [] one = absurd (omega (arith, one))
alone_at (x ∷ xs) one = refl

pub alone_there : (l : Linked) → length l.documents.items ≡ 1 → is_some (option_and_then (document_at l) (Some 0)) ≡ true
unfolding document_at
alone_there l one = alone_at l.documents.items one

some_viewed : (o : Option (Rc Compiled Global)) (d : Document) → option_map (λ (x : Rc Compiled Global). compiled_view x.value) o ≡ Some d → is_some (option_map (λ (x : Rc Compiled Global). x.value) o) ≡ true
some_viewed None d e = absurd (cc)
some_viewed (Some x) d e = refl

number_some : (l : Linked) (n : Option ℕ) (d : Document) → option_and_then (slice_get (linked_documents l)) n ≡ Some d → is_some (option_and_then (document_at l) n) ≡ true
unfolding linked_documents shared_documents document_at
number_some l None d e = absurd (cc)
number_some l (Some k) d e = some_viewed (slice_get l.documents.items k) d (sym (slice_get-map (λ (x : Rc Compiled Global). compiled_view x.value) l.documents.items k) ∙ e)

pub number_there : (l : Linked) (s : Schema) (uri : Text) (n : Option ℕ) → option_and_then (slice_get (linked_documents l)) n ≡ find (holds_resource uri) (linked_documents l)
    → Contains (linked_schemas l) s → s.resource ≡ uri → is_some (option_and_then (document_at l) n) ≡ true
number_there l s uri n e inside resource =
    let ds = linked_documents l in
    let own = from_flat_map (λ (x : Document). schemas_of x.base x.value) s ds inside in
    let found = found_some (holds_resource uri) own.0 ds own.1.0 (resource_held own.0 uri s own.1.1 (ap (same_text uri) resource ∙ same_text_itself uri)) in
    number_some l n found.0 (e ∙ found.1)

-- there its reference has its numbers
pub numbered : (l : Linked) (s : Schema) (d : Compiled) (n : ReferenceNumber) (uri text : Text) → document_at l n.document ≡ Some d
    → slice_get (resource_uris (compiled_schemas d)) n.resource ≡ Some uri → slice_get (compiled_texts d) n.text ≡ Some text → reference_pair l n ≡ Some (uri, text)
unfolding reference_pair pair_in
numbered l s d n uri text at resource reference =
    ap (option_and_then (pair_in n.resource n.text)) at
    ∙ ap₂ (λ u t. option_and_then (λ uri. option_map (λ text. (uri, text)) t) u) resource reference

pub held_there : (s : Schema) (d : Compiled) (uri : Text) → Contains (compiled_schemas d) s → s.resource ≡ uri → holds_resource uri (compiled_view d) ≡ true
held_there s d uri inside resource = resource_held (compiled_view d) uri s inside (ap (same_text uri) resource ∙ same_text_itself uri)

-- the document of a number is one of them, and the one that has its resources
pub document_numbered : (l : Linked) (n : ℕ) (d : Compiled) → document_at l n ≡ Some d → slice_get (linked_documents l) n ≡ Some (compiled_view d)
unfolding linked_documents shared_documents document_at
document_numbered l n d at = slice_get-map (λ (x : Rc Compiled Global). compiled_view x.value) l.documents.items n ∙ viewed (slice_get l.documents.items n) d at

contains_numbered : {X : Type 0} (xs : List X) (n : ℕ) (x : X) → slice_get xs n ≡ Some x → Contains xs x
contains_numbered xs n x e = subst (Contains xs) (get_or_from_slice_get xs n x x e) (Contains-get_or xs n x (slice_get_within xs n x e))

pub holder_numbered : (l : Linked) (n : ℕ) (d : Compiled) (uri : Text) → document_at l n ≡ Some d → holds_resource uri (compiled_view d) ≡ true
    → Some (compiled_view d) ≡ find (holds_resource uri) (linked_documents l)
unfolding linked_documents
holder_numbered l n d uri at holds =
    let ds = linked_documents l in
    sym (first_holder ds uri (compiled_view d) (ap (has_repeat same_text) (sym (table_uris ds)) ∙ l.distinct)
    (contains_numbered ds n (compiled_view d) (document_numbered l n d at)) holds)
