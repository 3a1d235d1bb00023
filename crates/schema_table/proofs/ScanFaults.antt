-- The first fault of a document, from what the walk finds in its value.
use Rattle.std.proofs.Common.{◌≡◌, ◌≤◌, List, [], ◌++◌, map, Bool, true, false, nat_lt, Some, refl, sym, ap, ap₂, ◌∙◌, arith}
use Rattle.std.proofs.lemmas.Bool.Decides.{nat_tests}
use Rattle.std.specs.List.{flat_map}
use Rattle.definitions.specs.Values.{Text, Value, is_object, nesting, same_text}
use Rattle.definitions.specs.Lists.{has_repeat, first, unless, when}
use Rattle.definitions.specs.Faults.{Fault, not_object, too_nested, duplicate_uri, duplicate_anchor}
use Rattle.definitions.specs.Schemas.{schemas_of}
use Rattle.definitions.specs.Scanning.{same_anchor, name_faults, scan_fault}
use Rattle.schema_table.specs.Missteps.{Misstep, misstep_fault, missteps}
use Rattle.schema_table.specs.Gathering.{mark_pair, marks, root_uris}
use Rattle.schema_table.proofs.Indexing.{document-anchors, document-uris, standing}
use Rattle.schema_table.proofs.Walked.{document-missteps}
use Rattle.schema_table.proofs.Visiting.{first-append}

-- ---- names
abbrev pub faults_of_names : Bool → Bool → List Fault
faults_of_names uris anchors = when uris duplicate_uri ++ when anchors duplicate_anchor

-- whether a name stands twice in the document
abbrev pub uris_repeat : Text → Value → Bool
uris_repeat base v = has_repeat same_text (root_uris (standing base v))

abbrev pub anchors_repeat : Text → Value → Bool
anchors_repeat base v = has_repeat same_anchor (map mark_pair (flat_map marks (standing base v)))

name_faults-spots : (base : Text) (v : Value) → name_faults (schemas_of base v) ≡ faults_of_names (uris_repeat base v) (anchors_repeat base v)
name_faults-spots base v =
    ap₂ faults_of_names (ap (has_repeat same_text) (document-uris base v)) (ap (has_repeat same_anchor) (document-anchors base v))

-- ---- all faults
abbrev pub all_faults : Bool → Bool → List Misstep → Bool → Bool → List Fault
all_faults object deep ms uris anchors =
    (unless object not_object ++ (when deep too_nested ++ map (misstep_fault []) ms)) ++ faults_of_names uris anchors

pub scan_fault-parts : (base : Text) (v : Value)
    → scan_fault base v ≡ first (all_faults (is_object v) (nat_lt 120 (nesting v)) (missteps base true v) (uris_repeat base v) (anchors_repeat base v))
scan_fault-parts base v =
    ap₂ (λ fs gs. first ((unless (is_object v) not_object ++ (when (nat_lt 120 (nesting v)) too_nested ++ fs)) ++ gs)) (document-missteps base v) (name_faults-spots base v)

-- ---- the fault at each exit of a scan
pub fault_of_value : (base : Text) (v : Value) → is_object v ≡ false → scan_fault base v ≡ Some not_object
fault_of_value base v e =
    scan_fault-parts base v ∙ ap (λ b. first (all_faults b (nat_lt 120 (nesting v)) (missteps base true v) (uris_repeat base v) (anchors_repeat base v))) e

module _ (base : Text) (v : Value) (is_dict : is_object v ≡ true) where
  of_object : scan_fault base v ≡ first (all_faults true (nat_lt 120 (nesting v)) (missteps base true v) (uris_repeat base v) (anchors_repeat base v))
  of_object =
      scan_fault-parts base v ∙ ap (λ b. first (all_faults b (nat_lt 120 (nesting v)) (missteps base true v) (uris_repeat base v) (anchors_repeat base v))) is_dict

  pub fault_of_nesting : nat_lt 120 (nesting v) ≡ true → scan_fault base v ≡ Some too_nested
  fault_of_nesting e = of_object ∙ ap (λ b. first (all_faults true b (missteps base true v) (uris_repeat base v) (anchors_repeat base v))) e

  module _ (is_flat : nesting v ≤ 120) where
    of_flat : scan_fault base v ≡ first (map (misstep_fault []) (missteps base true v) ++ faults_of_names (uris_repeat base v) (anchors_repeat base v))
    of_flat = of_object ∙ ap (λ b. first (all_faults true b (missteps base true v) (uris_repeat base v) (anchors_repeat base v))) flat
      where
        flat : nat_lt 120 (nesting v) ≡ false
        flat = grind (arith, nat_tests)

    pub fault_of_misstep : (f : Fault) → first (map (misstep_fault []) (missteps base true v)) ≡ Some f → scan_fault base v ≡ Some f
    fault_of_misstep f e = of_flat ∙ first-append (map (misstep_fault []) (missteps base true v)) (faults_of_names (uris_repeat base v) (anchors_repeat base v)) f e

    pub fault_of_names : missteps base true v ≡ [] → (uris anchors : Bool) → uris ≡ uris_repeat base v → anchors ≡ anchors_repeat base v → scan_fault base v ≡ first (faults_of_names uris anchors)
    fault_of_names passed uris anchors e g =
        of_flat
        ∙ ap (λ ms. first (map (misstep_fault []) ms ++ faults_of_names (uris_repeat base v) (anchors_repeat base v))) passed
        ∙ ap₂ (λ a b. first (faults_of_names a b)) (sym e) (sym g)

    pub fault_of_uris : missteps base true v ≡ [] → true ≡ uris_repeat base v → scan_fault base v ≡ Some duplicate_uri
    fault_of_uris passed e = fault_of_names passed true (anchors_repeat base v) e refl
