use Rattle.std.proofs.Common.{◌≡◌, ◌≤◌, List, [], map, subst, Bool, true, false, String, Global, string_bytes, sym, ap, ◌∙◌, arith}
use Rattle.definitions.specs.Values.{Text, Value, is_object, nesting, same_text}
use Rattle.definitions.specs.Lists.{has_repeat}
use Rattle.definitions.specs.Scanning.{same_anchor}
use Rattle.faults.specs.View.{fault_view}
use Rattle.json_doc.specs.Docs.{value}
use Rattle.schema_table.specs.Gathering.{Gathers, IsGathered, anchor_mark, mark_pair, table_marks, table_uris}
use Rattle.schema_table.specs.Missteps.{missteps}
use Rattle.schema_table.specs.Spots.{spots}
use Rattle.schema_table.specs.declared.anchors.Anchor.{Anchor}
use Rattle.schema_table.specs.Visits.{Visits, visited_hops}
use Rattle.schema_table.specs.declared.visit.Visit.{Visit}
use Rattle.schema_table.proofs.Gatherings.{gathered-anew}
use Rattle.schema_table.proofs.Indexing.{standing}
use Rattle.schema_table.proofs.ScanFaults.{uris_repeat, anchors_repeat, fault_of_misstep, fault_of_uris, fault_of_names}
use Rattle.schema_table.proofs.reading.read_schemas.Goals as goal

pub returns-in-Err-clause-err : goal.returns-in-Err-clause-err
returns-in-Err-clause-err c =
    λ is_found.
    let base = c.args.base.now in
    let v = value c.args.document.now in
    let dict : is_object v ≡ true = cc in
    let flat : nesting v ≤ 120 = omega arith in
    fault_of_misstep base v dict flat (fault_view c.fault.result) (c.fault.ensures (missteps base true v) c.in-Err.ensures.ends is_found)

-- what is gathered after nothing, and the tests for names that stand twice
module _ (start end : Visit) (base : Text) (v : Value) (none : IsGathered start.gathered []) (first : visited_hops start ≡ []) (more : Visits start end (spots (visited_hops start) 0 base v)) where
  pub all : IsGathered end.gathered (standing base v)
  all = gathered-anew start.gathered end.gathered (standing base v) none (subst (λ hops. Gathers start.gathered end.gathered (spots hops 0 base v)) first more.gathers)

  pub tested-uris : (us : List (String Global)) (b : Bool) → us ≡ end.gathered.table.uris.items → b ≡ has_repeat same_text (map string_bytes us) → b ≡ uris_repeat base v
  unfolding table_uris
  tested-uris us b lent e = e ∙ ap (λ ts. has_repeat same_text (map string_bytes ts)) lent ∙ ap (has_repeat same_text) all.table.uris

  pub tested-anchors : (anchors : List Anchor) (b : Bool) → anchors ≡ end.gathered.table.anchors.items → b ≡ has_repeat same_anchor (map mark_pair (map anchor_mark anchors)) → b ≡ anchors_repeat base v
  unfolding table_marks
  tested-anchors anchors b lent e =
      e ∙ ap (λ found. has_repeat same_anchor (map mark_pair (map anchor_mark found))) lent ∙ ap (λ ms. has_repeat same_anchor (map mark_pair ms)) all.table.marks

pub returns-then-branch-clause-err : goal.returns-then-branch-clause-err
returns-then-branch-clause-err c =
    λ _.
    let base = c.args.base.now in
    let v = value c.args.document.now in
    let end = c.visit_schema.new.self in
    let dict : is_object v ≡ true = cc in
    let flat : nesting v ≤ 120 = omega arith in
    let repeats : true ≡ uris_repeat base v = sym c.if-branch.true ∙ tested-uris c.new-visit.result end base v c.new-visit.ensures.gathered c.new-visit.ensures.way c.in-Ok.ensures.visits c.deref.result.now _ c.deref.ensures.value c.in_ok-has_repeated_uri.ensures in
    fault_of_uris base v dict flat c.in-Ok.ensures.ends repeats

pub returns-then-branch-2-clause-err : goal.returns-then-branch-2-clause-err
returns-then-branch-2-clause-err c =
    λ _.
    let base = c.args.base.now in
    let v = value c.args.document.now in
    let end = c.visit_schema.new.self in
    let dict : is_object v ≡ true = cc in
    let flat : nesting v ≤ 120 = omega arith in
    let no_uri : false ≡ uris_repeat base v = sym c.if-branch.false ∙ tested-uris c.new-visit.result end base v c.new-visit.ensures.gathered c.new-visit.ensures.way c.in-Ok.ensures.visits c.deref.result.now _ c.deref.ensures.value c.in_ok-has_repeated_uri.ensures in
    let repeats : true ≡ anchors_repeat base v = sym c.if-branch-2.true ∙ tested-anchors c.new-visit.result end base v c.new-visit.ensures.gathered c.new-visit.ensures.way c.in-Ok.ensures.visits c.deref-2.result.now _ c.deref-2.ensures.value c.in_ok-has_repeated_anchor.ensures in
    fault_of_names base v dict flat c.in-Ok.ensures.ends false true no_uri repeats

pub returns-clause-ok : goal.returns-clause-ok
returns-clause-ok c =
    all c.new-visit.result c.visit_schema.new.self c.args.base.now (value c.args.document.now) c.new-visit.ensures.gathered c.new-visit.ensures.way c.in-Ok.ensures.visits

pub returns-clause-sound : goal.returns-clause-sound
returns-clause-sound c =
    let base = c.args.base.now in
    let v = value c.args.document.now in
    let end = c.visit_schema.new.self in
    let dict : is_object v ≡ true = cc in
    let flat : nesting v ≤ 120 = omega arith in
    let no_uri : false ≡ uris_repeat base v = sym c.if-branch.false ∙ tested-uris c.new-visit.result end base v c.new-visit.ensures.gathered c.new-visit.ensures.way c.in-Ok.ensures.visits c.deref.result.now _ c.deref.ensures.value c.in_ok-has_repeated_uri.ensures in
    let no_anchor : false ≡ anchors_repeat base v = sym c.if-branch-2.false ∙ tested-anchors c.new-visit.result end base v c.new-visit.ensures.gathered c.new-visit.ensures.way c.in-Ok.ensures.visits c.deref-2.result.now _ c.deref-2.ensures.value c.in_ok-has_repeated_anchor.ensures in
    fault_of_names base v dict flat c.in-Ok.ensures.ends false false no_uri no_anchor
