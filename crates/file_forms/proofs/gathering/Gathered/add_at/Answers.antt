use Rattle.std.proofs.Common.{◌∙◌, ap, inl, option_map, string_bytes, subst, sym, unwrap_or}
use Rattle.std.proofs.lemmas.Map.Lookups.{exact_bytes}
use Rattle.schema_scan.specs.CompiledDocuments.{compiled_view}
use Rattle.file_checks.specs.FileSources.{file_documents}
use Rattle.file_forms.specs.Gathered.{IsAddedAt}
use Rattle.file_forms.specs.Roots.{folder_of, gathering_of}
use Rattle.file_forms.proofs.Gathers.{is_added, refused_file}
use Rattle.file_forms.proofs.Troubles.{no_room_unread}
use Rattle.file_forms.proofs.gathering.Gathered.add_at.Goals as goal

pub returns-in-Err-clause-err : goal.returns-in-Err-clause-err
returns-in-Err-clause-err g c = inl c.in-Err.ensures.err

pub returns-in-Err-insert-clause-err : goal.returns-in-Err-insert-clause-err
returns-in-Err-insert-clause-err g c = inl (no_room_unread c.args.path.now c.no_room.result c.no_room.ensures)

pub returns-in-Err-added-clause-err : goal.returns-in-Err-added-clause-err
returns-in-Err-added-clause-err g c =
    refused_file (g.F.Folders.holds c.args.files.now) (folder_of c.args.self.now) c.args.path.now (option_map (λ u. u.now) c.args.uri) (string_bytes c.args.place) c.in-Ok.text.items
    c.uri_or.result.now c.as_slice.result.now (file_documents c.args.self.now.documents) c.in-Err-added.fault c.refused.result c.requires c.in-Ok.ensures.ok
    (c.uri_or.ensures ∙ ap (unwrap_or (option_map (λ u. u.now) c.args.uri)) c.as_str.ensures.value) c.as_slice.ensures.value c.in-Err-added.ensures.err c.refused.ensures

pub returns-in-Ok-note-clause-ok : goal.returns-in-Ok-note-clause-ok
returns-in-Ok-note-clause-ok g c =
    subst (IsAddedAt (g.F.Folders.holds c.args.files.now) (folder_of c.args.self.now) c.args.path.now (string_bytes c.args.place) (option_map (λ u. u.now) c.args.uri)
    (compiled_view c.in-Ok-added.document.value) (gathering_of c.args.self.now)) (sym c.note.ensures.gathered)
    (is_added (g.F.Folders.holds c.args.files.now) (folder_of c.args.self.now) c.args.path.now (option_map (λ u. u.now) c.args.uri) c.args.place c.as_str.result.now c.uri_or.result.now
    c.in-Ok.text.items c.as_slice.result.now (compiled_view c.in-Ok-added.document.value) (file_documents c.args.self.now.documents) _ _ c.args.self.now.places.keys _ c.requires c.in-Ok.ensures.ok
    c.uri_or.ensures c.as_str.ensures.value c.as_slice.ensures.value c.in-Ok-added.ensures.ok c.in-Ok-added.ensures.added c.in-Ok-insert.ensures.keys
    (λ a b e. sym (exact_bytes (string_bytes a) (string_bytes b) e)))

pub returns-clause-err : goal.returns-clause-err
returns-clause-err g c = inl (no_room_unread c.args.path.now c.no_room-in-Err-note.result c.no_room-in-Err-note.ensures)
