-- The document that stands at a place.
use Rattle.std.proofs.Common.{◌≡◌, ℕ, ◌+◌, ◌<◌, ◌++◌, ◌⊎◌, List, [], ◌∷◌, map, take, length, get_or, Contains, Some, sym, ap, ◌∙◌, subst}
use Rattle.std.proofs.lemmas.List.{length-map, map-append}
use Rattle.std.proofs.lemmas.List.Elements.{Contains-append_left, Contains-append_right}
use Rattle.std.specs.Global.{Global}
use Rattle.std.specs.declared.rc.Rc.{Rc}
use Rattle.definitions.specs.Documents.{document_of, Ascend}
use Rattle.definitions.specs.Schemas.{Document}
use Rattle.definitions.specs.Values.{Text}
use Rattle.definition_laws.proofs.Membership.{nothing_in, is_first}
use Rattle.lemmas.proofs.Lists.{map-take_more}
use Rattle.linker.proofs.Positions.{get_or-map, standing_found}
use Rattle.linker.specs.Positions.{StandsAt}
use Rattle.stored_documents.specs.SharedStored.{stored_documents}
use Rattle.stored_documents.specs.StoredDocuments.{stored_view}
use Rattle.stored_documents.specs.declared.stored.Stored.{Stored}
use Rattle.stored_documents.proofs.MadeClaims.{last_or_before}

pub stored_as_long : (items : List (Rc Stored Global)) → length (stored_documents items) ≡ length items
unfolding stored_documents
stored_as_long items = length-map items (λ (s : Rc Stored Global). stored_view s.value)

pub stored_standing : (items : List (Rc Stored Global)) (uri : Text) (at : ℕ) (s : Rc Stored Global) → Ascend (stored_documents items) → StandsAt (stored_documents items) uri at → s ≡ get_or items at s
    → document_of (stored_documents items) uri ≡ Some (stored_view s.value)
unfolding stored_documents
stored_standing items uri at s ascend stands is =
    standing_found (stored_documents items) uri at ascend stands (stored_view s.value)
    ∙ ap Some (get_or-map (λ (x : Rc Stored Global). stored_view x.value) items at s ∙ ap (λ (x : Rc Stored Global). stored_view x.value) (sym is))

-- ---- those that stand where others will be put
pub none_standing : (P : Document → Type 0) (e : Document) → Contains (stored_documents []) e → P e
unfolding stored_documents
none_standing P e k = absurd (nothing_in e k)

pub standing_still : (items after : List (Rc Stored Global)) (s : Rc Stored Global) (d : Document) → after ≡ items ++ s ∷ [] → Contains (stored_documents items) d → Contains (stored_documents after) d
unfolding stored_documents
standing_still items after s d pushed k =
    let view : Rc Stored Global → Document = λ x. stored_view x.value in
    subst (λ ds. Contains ds d) (sym (ap (map view) pushed ∙ map-append view items (s ∷ []))) (Contains-append_left (map view items) (view s ∷ []) d k)

pub standing_last : (items after : List (Rc Stored Global)) (s : Rc Stored Global) (d : Document) → after ≡ items ++ s ∷ [] → stored_view s.value ≡ d → Contains (stored_documents after) d
unfolding stored_documents
standing_last items after s d pushed is =
    let view : Rc Stored Global → Document = λ x. stored_view x.value in
    subst (λ ds. Contains ds d) (sym (ap (map view) pushed ∙ map-append view items (s ∷ [])))
    (Contains-append_right (map view items) (view s ∷ []) d (subst (λ x. Contains (view s ∷ []) x) is (is_first (view s) [])))

pub taken_or_last : (ss : List (Rc Stored Global)) (i : ℕ) (s : Rc Stored Global) (e : Document) → i < length ss → s ≡ get_or ss i s → Contains (stored_documents (take (i + 1) ss)) e
    → Contains (stored_documents (take i ss)) e ⊎ (stored_view s.value ≡ e)
unfolding stored_documents
taken_or_last ss i s e l is k =
    let view : Rc Stored Global → Document = λ x. stored_view x.value in
    last_or_before e (view s) (map view (take i ss)) (subst (λ ds. Contains ds e) (map-take_more view ss i s l is) k)
