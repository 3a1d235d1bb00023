use Rattle.std.proofs.Common.{ap, ◌∙◌, option_map, refl, sym, string_bytes, Some}
use Rattle.schema_scan.specs.CompiledDocuments.{compiled_view}
use Rattle.file_checks.specs.FileSources.{file_documents}
use Rattle.file_checks.proofs.Held.{is_added, is_apart, is_taken}
use Rattle.file_checks.proofs.documents.FileDocuments.insert.Goals as goal

pub returns-in-Some-clause-err : goal.returns-in-Some-clause-err
returns-in-Some-clause-err c = λ is_found.
    is_taken (file_documents c.args.self.now) (compiled_view c.args.document.value) (compiled_view c.deref.result.now) (option_map (λ u. u.now) c.in_ok-uri.field-0) (string_bytes c.in_ok-to_owned.field-0)
    c.in_ok-uri.ensures.ok (ap compiled_view c.deref.ensures) (ap (option_map (λ u. u.now)) c.in-Some.is ∙ ap Some (sym c.in_ok-to_owned.ensures.ok))

pub returns-clause-ok : goal.returns-clause-ok
returns-clause-ok c =
    is_apart (file_documents c.args.self.now) (compiled_view c.args.document.value) (compiled_view c.deref.result.now) (option_map (λ u. u.now) c.in_ok-uri.field-0)
    c.in_ok-uri.ensures.ok (ap compiled_view c.deref.ensures) (ap (option_map (λ u. u.now)) c.in_default.is)

pub returns-clause-added : goal.returns-clause-added
returns-clause-added c =
    is_added (file_documents c.args.self.now) _ (compiled_view c.args.document.value) (compiled_view c.deref.result.now) (compiled_view c.args.document.value) (option_map (λ u. u.now) c.in_ok-uri.field-0) c.in_ok-add.field-0
    c.in_ok-uri.ensures.ok (ap compiled_view c.deref.ensures) (ap (option_map (λ u. u.now)) c.in_default.is) refl c.in_ok-add.ensures.ok c.in_ok-add.ensures.added
