-- A list with one document: what is added to an empty list, and what its canonical URI reaches.
use Rattle.std.proofs.Common.{◌≡◌, ◌||◌, Bool, true, false, List, [], ◌∷◌, Option, Some, None, Result, Err, filter, not, cond, option_map, refl, sym, ap, ◌∙◌}
use Rattle.std.specs.List.{list_any}
use Rattle.definitions.specs.Answers.{answer}
use Rattle.definitions.specs.Applied.{Outcome}
use Rattle.definitions.specs.Faults.{Fault, unresolved}
use Rattle.definitions.specs.Patterns.{has_match}
use Rattle.definitions.specs.Reach.{holds_resource, refers_to, reach_by_one, reach, least, missing_references}
use Rattle.definitions.specs.Documents.{documents_with, resources_of}
use Rattle.definitions.specs.Schemas.{Document, document_from}
use Rattle.definitions.specs.Values.{Text, Value, same_text}
use Rattle.lemmas.proofs.Texts.{same_text_itself}
use Rattle.definition_laws.proofs.StoredDocuments.{holds_itself}
use Rattle.evaluator.specs.Reports.{report_or_fault}
use Rattle.linker.specs.LinkFaults.{link_fault}
use Rattle.linker.specs.Sources.{shares_resource}
use Rattle.checks.specs.Judgements.{Judgement, unless_fault, said_by}

none_held : (uris : List Text) → list_any (λ uri. list_any (holds_resource uri) []) uris ≡ false
none_held [] = refl
none_held (uri ∷ uris) = none_held uris

pub shares_none : (d : Document) → shares_resource [] d ≡ false
unfolding shares_resource
shares_none d = none_held (resources_of d)

put_first : (d : Document) (ds : List Document) (added : Bool) → added ≡ true → ds ≡ cond added (d ∷ []) [] → ds ≡ d ∷ []
put_first d ds true e h = h
put_first d ds false e h = cc

-- a document that is added to no documents
pub added_first : (d : Document) (before after : List Document) (added : Bool) → before ≡ [] → added ≡ not (shares_resource before d)
    → after ≡ cond added (documents_with d before) before → after ≡ d ∷ []
added_first d before after added none e h =
    put_first d after added (e ∙ ap (λ ds. not (shares_resource ds d)) none ∙ ap not (shares_none d)) (h ∙ ap (λ ds. cond added (documents_with d ds) ds) none)

kept_one : (p : Document → Bool) (d : Document) → p d ≡ true → filter p (d ∷ []) ≡ d ∷ []
kept_one p d e = ap (λ b. cond b (d ∷ []) []) e

grows_no_more : (d : Document) → reach_by_one (d ∷ []) (d ∷ []) ≡ d ∷ []
grows_no_more d =
    kept_one (λ e. list_any (λ x. same_text x.canonical e.canonical || refers_to x e) (d ∷ [])) d
    (ap (λ b. (b || refers_to d d) || false) (same_text_itself d.canonical))

pub reaches_itself : (base : Text) (v : Value)
    → reach (document_from base v ∷ []) (document_from base v).canonical ≡ document_from base v ∷ []
reaches_itself base v =
    let d = document_from base v in
    ap (reach_by_one (d ∷ [])) (kept_one (holds_resource d.canonical) d (holds_itself base v)) ∙ grows_no_more d

-- what is reached among documents that are one alone
pub reached_alone : (base : Text) (v : Value) (ds : List Document) (uri : Text) → ds ≡ document_from base v ∷ [] → uri ≡ (document_from base v).canonical
    → reach ds uri ≡ document_from base v ∷ []
reached_alone base v ds uri e u = ap (λ xs. reach xs uri) e ∙ ap (reach (document_from base v ∷ [])) u ∙ reaches_itself base v

-- ---- what it says
none_unresolved : (t : Option Text) → option_map unresolved t ≡ None → (r : Judgement) → unless_fault (option_map unresolved t) r ≡ r
none_unresolved None e r = refl
none_unresolved (Some t) e r = cc

unless_some : (o : Option Fault) (f : Fault) (r : Judgement) → o ≡ Some f → unless_fault o r ≡ Err f
unless_some o f r e = ap (λ x. unless_fault x r) e

pub says : (d : Document) (x : Value) (reached linked : List Document) (uri : Text) (r : Judgement)
    → reached ≡ d ∷ [] → linked ≡ reached → uri ≡ d.canonical → link_fault reached ≡ None
    → report_or_fault (answer has_match linked uri x) ≡ r → said_by d x ≡ r
unfolding link_fault said_by
says d x reached linked uri r e l u none h =
    none_unresolved (least (missing_references (d ∷ []))) (ap link_fault (sym e) ∙ none) (report_or_fault (answer has_match (d ∷ []) d.canonical x))
    ∙ ap (λ ds. report_or_fault (answer has_match ds d.canonical x)) (sym (l ∙ e)) ∙ ap (λ t. report_or_fault (answer has_match linked t x)) (sym u) ∙ h

pub links_not : (d : Document) (x : Value) (reached : List Document) (f : Fault) → reached ≡ d ∷ [] → link_fault reached ≡ Some f → said_by d x ≡ Err f
unfolding link_fault said_by
links_not d x reached f e h =
    unless_some (option_map unresolved (least (missing_references (d ∷ [])))) f (report_or_fault (answer has_match (d ∷ []) d.canonical x)) (ap link_fault (sym e) ∙ h)

pub reports_fault : (o : Result Outcome Fault) (f : Fault) → o ≡ Err f → report_or_fault o ≡ Err f
reports_fault o f e = ap report_or_fault e
