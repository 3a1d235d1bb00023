use Rattle.std.proofs.Common.{◌≡◌, ◌<◌, ◌≤◌, ℕ, List, [], ◌++◌, true, false, length, map, nat_le, string_bytes, sym, ap, ◌∙◌, arith, append-nil}
use Rattle.std.proofs.lemmas.Bool.Decides.{nat_tests}
use Rattle.std.proofs.lemmas.List.{length-map}
use Rattle.json_doc.specs.Docs.{value}
use Rattle.locations.specs.declared.step.Step.{Step}
use Rattle.locations.specs.Hops.{step_hops}
use Rattle.schema_table.specs.Spots.{Spot, at_root, spot_in}
use Rattle.locations.specs.Ways.{owned_hops}
use Rattle.schema_table.specs.Gathering.{anchor_mark, table_uris, table_identifiers, table_ways, table_references, table_texts, table_marks, references_at, texts_at, marks}
use Rattle.schema_table.proofs.Gatherings.{root_identifier-one, root_uri-one, root_way-one}
use Rattle.schema_table.proofs.table.SchemaTable.add.Goals as goal
use Rattle.schema_table.proofs.table.SchemaTable.add.Goals.{then-way-start+in_ok-take+in_ok-take_way+in_ok-push_root+in_ok-push_identifier, else-way-start}

is-root : (steps : List Step) (start : ℕ) → length steps ≤ start → nat_le (length (step_hops steps)) start ≡ true
is-root steps start h = rw length-map (grind (arith, nat_tests))

no-root : (steps : List Step) (start : ℕ) → start < length steps → nat_le (length (step_hops steps)) start ≡ false
no-root steps start h = rw length-map (grind (arith, nat_tests))

last : {A : Type 0} (x y a : List A) → y ≡ x ++ a → y ≡ x ++ (a ++ [])
last x y a e = e ∙ ap (λ w. x ++ w) (sym (append-nil a))

pub returns : goal.returns
unfolding table_uris table_ways table_identifiers table_references table_texts table_marks
returns c =
    let uri = c.args.uri.now in
    let v = value c.args.schema.now in
    let before = c.args.self.now in
    let s : Spot = spot_in (step_hops c.args.way.now) c.args.start uri v in
    let references = c.in_ok-push_references.ensures.references in
    let texts = c.in_ok-push_references.ensures.texts in
    let anchors = c.in_ok-push_anchors.ensures in
    elim c.if-way-start.branch [
      | then-way-start+in_ok-take+in_ok-take_way+in_ok-push_root+in_ok-push_identifier w ↦
          let root : at_root s ≡ true = is-root c.args.way.now c.args.start w.if-way-start.true in
          record {
            uris = ap (λ g. map string_bytes g.uris.items) w.self-is ∙ w.in_ok-push_root.ensures.uris ∙ ap (λ us. map string_bytes before.uris.items ++ us) (sym (root_uri-one s true root));
            ways = ap (λ g. map owned_hops g.ways.items) w.self-is ∙ w.in_ok-push_root.ensures.ways ∙ ap (λ us. map owned_hops before.ways.items ++ us) (sym (root_way-one s true root));
            identifiers = ap (λ g. map string_bytes g.identifiers.items) w.self-is ∙ w.in_ok-push_identifier.ensures ∙ ap (λ us. map string_bytes before.identifiers.items ++ us) (sym (root_identifier-one s true root));
            texts = last (map string_bytes before.texts.items) _ (texts_at v) (texts ∙ ap (λ g. map string_bytes g.texts.items ++ texts_at v) w.self-is);
            references = last (map string_bytes before.references.items) _ (references_at uri v) (references ∙ ap (λ g. map string_bytes g.references.items ++ references_at uri v) w.self-is);
            marks = last (map anchor_mark before.anchors.items) _ (marks s) (anchors ∙ ap (λ g. map anchor_mark g.anchors.items ++ marks s) w.self-is);
          }
      | else-way-start w ↦
          let below : at_root s ≡ false = no-root c.args.way.now c.args.start w.if-way-start.false in
          record {
            uris = ap (λ g. map string_bytes g.uris.items) w.self-is ∙ sym (append-nil (map string_bytes before.uris.items)) ∙ ap (λ us. map string_bytes before.uris.items ++ us) (sym (root_uri-one s false below));
            ways = ap (λ g. map owned_hops g.ways.items) w.self-is ∙ sym (append-nil (map owned_hops before.ways.items)) ∙ ap (λ us. map owned_hops before.ways.items ++ us) (sym (root_way-one s false below));
            identifiers = ap (λ g. map string_bytes g.identifiers.items) w.self-is ∙ sym (append-nil (map string_bytes before.identifiers.items)) ∙ ap (λ us. map string_bytes before.identifiers.items ++ us) (sym (root_identifier-one s false below));
            texts = last (map string_bytes before.texts.items) _ (texts_at v) (texts ∙ ap (λ g. map string_bytes g.texts.items ++ texts_at v) w.self-is);
            references = last (map string_bytes before.references.items) _ (references_at uri v) (references ∙ ap (λ g. map string_bytes g.references.items ++ references_at uri v) w.self-is);
            marks = last (map anchor_mark before.anchors.items) _ (marks s) (anchors ∙ ap (λ g. map anchor_mark g.anchors.items ++ marks s) w.self-is);
          }
    ]
