use Rattle.std.proofs.Common.{inl, inr}
use Rattle.file_checks.specs.FileSources.{file_documents}
use Rattle.file_forms.proofs.Gathers.{library_read, refused_batch}
use Rattle.file_forms.proofs.gathering.documents_in.Goals as goal

pub returns-in-Err-clause-err : goal.returns-in-Err-clause-err
returns-in-Err-clause-err g c = inl c.in-Err.ensures.err

pub returns-in-Ok-of_library-clause-ok : goal.returns-in-Ok-of_library-clause-ok
returns-in-Ok-of_library-clause-ok g c =
    library_read (g.F.Folders.holds c.args.files.now) c.args.path.now _ _ (file_documents c.in-Ok-of_library.documents) c.in-Ok.ensures.ok c.as_slice.ensures.value c.in-Ok-of_library.ensures.ok

pub returns-clause-err : goal.returns-clause-err
returns-clause-err g c =
    refused_batch (g.F.Folders.holds c.args.files.now) c.args.path.now _ _ c.in-Err-of_library.fault c.refused.result c.in-Ok.ensures.ok c.as_slice.ensures.value
    c.in-Err-of_library.ensures.err c.refused.ensures
