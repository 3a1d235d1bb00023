use Rattle.std.proofs.Common.{◌≡◌, List, Contains, Option, Some, None, Vec, inl, inr, subst, sym, ap, ◌∙◌}
use Rattle.std.proofs.lemmas.List.{take_all}
use Rattle.std.specs.Global.{Global}
use Rattle.std.specs.declared.rc.Rc.{Rc}
use Rattle.definitions.specs.Documents.{document_of}
use Rattle.definitions.specs.Keeping.{AreKept}
use Rattle.definitions.specs.Patterns.{regular_search}
use Rattle.definitions.specs.Schemas.{Document}
use Rattle.definitions.specs.Values.{Text}
use Rattle.definition_laws.proofs.StoredDocuments.{found_by_uri}
use Rattle.stored_documents.specs.DocumentLists.{documents_in}
use Rattle.stored_documents.specs.KeptDocuments.{kept_documents}
use Rattle.stored_documents.specs.SharedStored.{stored_documents}
use Rattle.stored_documents.specs.StoredDocuments.{stored_view}
use Rattle.stored_documents.specs.declared.stored.Stored.{Stored}
use Rattle.stored_documents.proofs.ClaimedDocuments.{is_same, nowhere}
use Rattle.stored_documents.proofs.StandingDocuments.{none_standing, standing_last, standing_still, taken_or_last}
use Rattle.stored_documents.proofs.documents.Documents.standing.Goals as goal
use Rattle.stored_documents.proofs.documents.Documents.standing.Goals.{in-Some+in_ok-clone+in_ok-push, in_default}

pub loop-document-init : goal.loop-document-init
loop-document-init c = λ d e k i. none_standing (λ x. x.canonical ≡ d.canonical → Contains (stored_documents c.new-standing.result.items) d) e i

-- what a look-up by the URI of the document's own canonical URI finds
looked_up : (ds : List Document) (uri : Text) (o : Option Document) (d : Document) → AreKept regular_search ds → o ≡ document_of ds uri → Contains ds d → uri ≡ d.canonical → o ≡ Some d
looked_up ds uri o d kept is k named = is ∙ (found_by_uri regular_search ds uri d kept).1 (k, sym named)

pub loop-document-preserved : goal.loop-document-preserved
loop-document-preserved c =
    let l = c.loop-document in
    let ds = documents_in c.args.self.now in
    let named = c.canonical.ensures ∙ ap (λ s. (stored_view s).canonical) c.deref.ensures in
    elim c.match-find.branch [
      | in-Some+in_ok-clone+in_ok-push w ↦ λ d e k i same.
          let pushed = ap (λ (v : Vec (Rc Stored Global) Global). v.items) w.standing-is ∙ w.in_ok-push.ensures.items in
          elim (taken_or_last c.args.documents.now l.document-index c.document-item.result e c.loop-document-test.true c.document-item.is i) [
            | inl before ↦ standing_still l.standing.items c.match-find.standing.items w.in_ok-clone.field-0 d pushed (l.invariant d e k before same)
            | inr is ↦ standing_last l.standing.items c.match-find.standing.items w.in_ok-clone.field-0 d pushed
                (ap (λ (s : Stored). stored_view s) w.in_ok-clone.ensures.cases
                ∙ is_same (stored_view w.in-Some.found.now.value) d
                (looked_up ds c.canonical.result.now (Some (stored_view w.in-Some.found.now.value)) d (kept_documents c.args.self.now) w.in-Some.ensures k
                (named ∙ ap (λ (x : Document). x.canonical) is ∙ same)))
          ]
      | in_default w ↦ λ d e k i same.
          elim (taken_or_last c.args.documents.now l.document-index c.document-item.result e c.loop-document-test.true c.document-item.is i) [
            | inl before ↦ subst (λ (v : Vec (Rc Stored Global) Global). Contains (stored_documents v.items) d) (sym w.standing-is) (l.invariant d e k before same)
            | inr is ↦ absurd (nowhere d
                (looked_up ds c.canonical.result.now None d (kept_documents c.args.self.now) w.in_default.ensures k (named ∙ ap (λ (x : Document). x.canonical) is ∙ same)))
          ]
    ]

pub returns : goal.returns
returns c = λ d e k i same.
    c.loop-document.invariant d e k (subst (λ ss. Contains (stored_documents ss) e) (sym (take_all c.loop-document.document-index c.args.documents.now c.loop-document-test.false)) i) same
