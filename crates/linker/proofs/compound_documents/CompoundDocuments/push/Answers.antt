use Rattle.std.proofs.Common.{◌≡◌, ◌++◌, ◌∷◌, [], ◌&&◌, true, Some, None, nat_lt, cond, drop, length, map, string_bytes, ap, ap₂, sym, ◌∙◌, arith}
use Rattle.std.specs.BTreeMap.{get_by_text}
use Rattle.std.specs.List.{list_any, position_from}
use Rattle.definitions.specs.Documents.{resources_of}
use Rattle.definitions.specs.Reach.{holds_resource}
use Rattle.definitions.specs.Scanning.{resource_uris}
use Rattle.definitions.specs.Schemas.{Document, schemas_of}
use Rattle.definitions.specs.Values.{Text, same_text}
use Rattle.schema_scan.specs.CompiledDocuments.{compiled_schemas, compiled_view}
use Rattle.linker.specs.CompoundDocuments.{compound_documents}
use Rattle.std.specs.Option.{option_or}
use Rattle.linker.specs.SharedDocuments.{shared_documents}
use Rattle.linker.specs.Sources.{embeds}
use Rattle.linker.specs.declared.compound_documents.CompoundDocuments.{CompoundDocuments}
use Rattle.linker.proofs.HeldResources.{held}
use Rattle.linker.proofs.Positions.{shared_as_long}
use Rattle.linker.proofs.NumberedResources.{position_added, position_few}
use Rattle.linker.proofs.Shared.{shared_pushed}
use Rattle.linker.proofs.compound_documents.CompoundDocuments.push.Goals as goal
use Rattle.linker.proofs.compound_documents.CompoundDocuments.push.Goals.{then-number-ge-ASKED+in_ok-number_uris, else-number-ge-ASKED}

-- a document of several resources has exactly those
listed : (d : Document) (uri : Text) → nat_lt 1 (length (resources_of d)) ≡ true → list_any (same_text uri) (resources_of d) ≡ embeds uri d
unfolding embeds
listed d uri several = held uri (schemas_of d.base d.value) ∙ ap (λ b. b && holds_resource uri d) (sym several)

pub invariant_of-drop : goal.invariant_of-drop
invariant_of-drop c =
    let old = c.replace-documents.result in
    let d = compiled_view c.args.document.value in
    let before = shared_documents old.documents.items in
    let pushed : shared_documents c.push.new.self.items ≡ before ++ d ∷ [] = ap shared_documents c.in_ok-push.ensures.items ∙ shared_pushed old.documents.items c.args.document in
    let long : c.len-number.result ≡ length before = omega (arith, c.len-number.ensures, shared_as_long old.documents.items) in
    record {
      by_uri = λ uri. elim c.if-number-ge-ASKED.branch [
        | then-number-ge-ASKED+in_ok-number_uris w ↦
            let uris = map string_bytes w.resource_uris.result.now in
            let named : list_any (same_text uri) uris ≡ embeds uri d =
            ap (list_any (same_text uri)) (w.resource_uris.ensures ∙ ap (λ x. resource_uris (compiled_schemas x)) w.deref.ensures) ∙ listed d uri c.requires in
            ap (λ m. get_by_text m uri) w.numbers-is
            ∙ w.in_ok-number_uris.ensures uri
            ∙ ap₂ (λ o b. option_or o (cond b (Some c.len-number.result) None)) (old.by_uri uri) named
            ∙ ap (λ n. option_or (position_from (embeds uri) 4 (drop 4 before)) (cond (embeds uri d) (Some n) None)) long
            ∙ sym (position_added (embeds uri) 4 before d (omega (arith, w.if-number-ge-ASKED.true, long)))
            ∙ ap (λ ds. position_from (embeds uri) 4 (drop 4 ds)) (sym pushed)
        | else-number-ge-ASKED w ↦
            ap (λ m. get_by_text m uri) w.numbers-is
            ∙ old.by_uri uri
            ∙ sym (position_few (embeds uri) 4 before d (omega (arith, w.if-number-ge-ASKED.false, long)))
            ∙ ap (λ ds. position_from (embeds uri) 4 (drop 4 ds)) (sym pushed)
      ];
    }

pub returns : goal.returns
unfolding compound_documents
returns c =
    ap shared_documents c.in_ok-push.ensures.items ∙ shared_pushed c.replace-documents.result.documents.items c.args.document
    ∙ ap (λ (x : CompoundDocuments). shared_documents x.documents.items ++ compiled_view c.args.document.value ∷ []) c.replace-documents.ensures.value
