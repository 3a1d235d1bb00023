-- A schema among the documents that were gathered.
use Rattle.std.proofs.Common.{◌≡◌, ◌≢◌, ◌∙◌, ◌∷◌, [], ◌==◌, Bool, true, false, Bor, List, length, Option, Some, None, ap, refl, sym, subst, inl, inr, arith}
use Rattle.std.proofs.lemmas.Grind.{common_steps}
use Rattle.checks.specs.Judgements.{default_uri}
use Rattle.command_line.specs.Calls.{Documents}
use Rattle.definitions.specs.Reach.{reach}
use Rattle.definitions.specs.Schemas.{Document}
use Rattle.definitions.specs.Values.{Text}
use Rattle.definition_laws.specs.Reaching.{HaveDistinctResources}
use Rattle.faults.specs.View.{fault_view}
use Rattle.faults.specs.declared.Fault.{Fault}
use Rattle.faults.specs.declared.Fault.TheVariants.{NoRoom}
use Rattle.file_checks.specs.FileSources.{file_documents}
use Rattle.file_forms.specs.Gathered.{AreGathered, Folder, Gathering, IsAdded, IsBegun, IsFileTrouble, IsGatheringTrouble, IsPathTrouble, PathsAreGathered, root_uri}
use Rattle.file_forms.specs.Judged.{IsLinkedAmong}
use Rattle.file_forms.specs.Refusals.{IsRefusal, MeansNoRoom}
use Rattle.file_forms.specs.Roots.{Given, IsLinkedFrom, IsLinkedSchema, IsRoot, IsRootTrouble, IsTroubleOf, IsUnlinkedFrom}
use Rattle.file_forms.specs.Subjects.{Holds, Lists}
use Rattle.file_forms.specs.Told.{TellsSome, ToldUnless}
use Rattle.file_forms.specs.declared.roots.Root.{Root}
use Rattle.file_forms.specs.declared.trouble.Trouble.{Trouble}
use Rattle.file_forms.proofs.Going.{names}
use Rattle.file_forms.proofs.Telling.{other_told}
use Rattle.file_forms.proofs.Troubles.{no_room_refusal}
use Rattle.linker.specs.LinkFaults.{link_fault}
use Rattle.linker.specs.LinkedDocuments.{linked_documents, linked_uri}
use Rattle.linker.specs.declared.linked.Linked.{Linked}
use Rattle.schema_scan.specs.CompiledDocuments.{compiled_view}

-- ---- its URI
pub asked : (paths : List Text) (uri : Text) → Some uri ≡ root_uri paths (Some uri)
asked [] uri = refl
asked (p ∷ ps) uri = refl

pub alone : (paths : List (Bor Text)) (b : Bool) → b ≡ (length paths == 0) → b ≡ true → Some default_uri ≡ root_uri (names paths) None
alone [] b is e = refl
alone (p ∷ ps) b is e = absurd (let no : (length (p ∷ ps) == 0) ≡ true = sym is ∙ e in grind (arith, common_steps, no))

pub beside : (paths : List (Bor Text)) (b : Bool) → b ≡ (length paths == 0) → b ≡ false → None ≡ root_uri (names paths) None
beside [] b is e = absurd (let no : true ≡ false = sym is ∙ e in cc)
beside (p ∷ ps) b is e = refl

-- ---- gathered
pub are_gathered : (holds : Holds) (lists : Lists) (runs_in : Folder) (given : Documents) (schema : Text) (uri asked : Option Text) (asked_by paths : List Text) (root : Document)
    (folder later : Text) (none first last : Gathering) → IsBegun holds runs_in given.library folder none → asked ≡ root_uri asked_by uri → asked_by ≡ given.paths
    → IsAdded holds folder schema asked root none first → later ≡ folder → paths ≡ given.paths → PathsAreGathered holds lists later paths first last
    → AreGathered holds lists runs_in given schema uri root last.documents
are_gathered holds lists runs_in given schema uri asked asked_by paths root folder later none first last begun asked_is asked_by_is added same paths_are others = record {
  folder = folder;
  none = none;
  begun = begun;
  first = first;
  root_added = subst (λ u. IsAdded holds folder schema u root none first) (asked_is ∙ ap (λ ps. root_uri ps uri) asked_by_is) added;
  last = last;
  others = subst (λ f. PathsAreGathered holds lists f given.paths first last) same (subst (λ ps. PathsAreGathered holds lists later ps first last) paths_are others);
  are = refl;
}

pub trouble_of_schema : (holds : Holds) (runs_in : Folder) (given : Documents) (schema : Text) (uri asked : Option Text) (asked_by : List Text) (folder : Text) (none : Gathering)
    (trouble : Trouble) → IsBegun holds runs_in given.library folder none → asked ≡ root_uri asked_by uri → asked_by ≡ given.paths → IsFileTrouble holds folder schema asked trouble
    → IsGatheringTrouble holds runs_in given schema uri trouble
trouble_of_schema holds runs_in given schema uri asked asked_by folder none trouble begun asked_is asked_by_is t =
    inr (inr (folder, begun.runs, inl (subst (λ u. IsFileTrouble holds folder schema u trouble) (asked_is ∙ ap (λ ps. root_uri ps uri) asked_by_is) t)))

pub troubles_of_paths : (holds : Holds) (runs_in : Folder) (given : Documents) (schema : Text) (uri : Option Text) (folder later : Text) (none : Gathering) (before after : Text)
    → IsBegun holds runs_in given.library folder none → later ≡ folder → TellsSome (IsPathTrouble holds later) before after
    → TellsSome (IsGatheringTrouble holds runs_in given schema uri) before after
troubles_of_paths holds runs_in given schema uri folder later none before after begun same told =
    other_told (IsPathTrouble holds later) (IsGatheringTrouble holds runs_in given schema uri) before after
    (λ trouble t. inr (inr (folder, begun.runs, inr (subst (λ f. IsPathTrouble holds f trouble) same t)))) told

-- ---- linked
pub is_linked_from : (root : Root) (linked : Linked) (owned canonical : Text) → linked_uri linked ≡ owned → linked_documents linked ≡ reach (file_documents root.documents) owned
    → HaveDistinctResources (file_documents root.documents) → owned ≡ canonical → canonical ≡ (compiled_view root.schema.value).canonical → IsLinkedFrom root linked
is_linked_from root linked owned canonical uri documents distinct owned_is canonical_is = record {
  uri = uri ∙ owned_is ∙ canonical_is;
  among = record { distinct = distinct; reached = documents ∙ ap (reach (file_documents root.documents)) (sym uri) };
}

pub is_unlinked_from : (root : Root) (path : Text) (fault : Fault) (trouble : Trouble) (owned canonical : Text) → IsRefusal path None fault trouble
    → (fault ≢ NoRoom → link_fault (reach (file_documents root.documents) owned) ≡ Some (fault_view fault)) → owned ≡ canonical → canonical ≡ (compiled_view root.schema.value).canonical
    → IsUnlinkedFrom root path trouble
is_unlinked_from root path fault trouble owned canonical is why owned_is canonical_is = record {
  fault = fault;
  is = is;
  why = λ room. ap (λ u. link_fault (reach (file_documents root.documents) u)) (sym (owned_is ∙ canonical_is)) ∙ why room;
}

pub no_room_unlinked : (root : Root) (path : Text) (trouble : Trouble) → MeansNoRoom trouble → IsUnlinkedFrom root path trouble
no_room_unlinked root path trouble is = record { fault = NoRoom; is = no_room_refusal path None NoRoom trouble is; why = λ room. absurd (room refl) }

pub is_linked_schema : (holds : Holds) (lists : Lists) (runs_in : Folder) (given : Given) (found : Option Root) (root : Root) (linked : Linked) (before after : Text) → found ≡ Some root
    → IsRoot holds lists runs_in given found before after → IsLinkedFrom root linked → IsLinkedSchema holds lists runs_in given (Some linked) before after
is_linked_schema holds lists runs_in given found root linked before after found_is is from =
    let among : IsRoot holds lists runs_in given (Some root) before after = subst (λ o. IsRoot holds lists runs_in given o before after) found_is is in
    (record { root = compiled_view root.schema.value; documents = file_documents root.documents; gathered = among.0; uri = from.uri; among = from.among }, among.1)

pub is_unlinked_schema : (holds : Holds) (lists : Lists) (runs_in : Folder) (given : Given) (found : Option Root) (root : Root) (trouble : Trouble) (before after : Text) → found ≡ Some root
    → IsRoot holds lists runs_in given found before after → IsUnlinkedFrom root given.schema trouble → IsRootTrouble holds lists runs_in given trouble
is_unlinked_schema holds lists runs_in given found root trouble before after found_is is from =
    let among : IsRoot holds lists runs_in given (Some root) before after = subst (λ o. IsRoot holds lists runs_in given o before after) found_is is in
    inr (record { root = compiled_view root.schema.value; documents = file_documents root.documents; gathered = among.0; fault = from.fault; is = from.is; why = from.why })

pub untold_root : (holds : Holds) (lists : Lists) (runs_in : Folder) (given : Given) (found : Option Root) (root : Root) (before after : Text) → found ≡ Some root
    → IsRoot holds lists runs_in given found before after → after ≡ before
untold_root holds lists runs_in given found root before after found_is is =
    let among : IsRoot holds lists runs_in given (Some root) before after = subst (λ o. IsRoot holds lists runs_in given o before after) found_is is in
    among.1

pub no_schema : (holds : Holds) (lists : Lists) (runs_in : Folder) (given : Given) (found : Option Root) (before after : Text) → found ≡ None → IsRoot holds lists runs_in given found before after
    → IsLinkedSchema holds lists runs_in given None before after
no_schema holds lists runs_in given found before after found_is is =
    other_told (IsTroubleOf holds runs_in given) (IsRootTrouble holds lists runs_in given) before after (λ trouble t. inl t) (subst (λ o. IsRoot holds lists runs_in given o before after) found_is is)
