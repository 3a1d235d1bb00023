use Rattle.std.proofs.Common.{IfErr, IfOk, option_map, subst, sym}
use Rattle.file_checks.specs.FileSources.{file_documents}
use Rattle.file_forms.specs.Gathered.{IsLibrary, IsLibraryTrouble}
use Rattle.file_forms.proofs.gathering.library_documents.Goals as goal

pub returns-in-None-clause-ok : goal.returns-in-None-clause-ok
returns-in-None-clause-ok g c =
    subst (λ o. IsLibrary (g.F.Folders.holds c.args.files.now) (option_map (λ l. l.now) o) (file_documents c.new.result)) (sym c.in-None.is) c.new.ensures

pub returns-in-Some-clause-ok : goal.returns-in-Some-clause-ok
returns-in-Some-clause-ok g c =
    subst (λ o. IfOk c.documents_in.result (λ d. IsLibrary (g.F.Folders.holds c.args.files.now) (option_map (λ l. l.now) o) (file_documents d))) (sym c.in-Some.is) c.documents_in.ensures.ok

pub returns-in-Some-clause-err : goal.returns-in-Some-clause-err
returns-in-Some-clause-err g c =
    subst (λ o. IfErr c.documents_in.result (IsLibraryTrouble (g.F.Folders.holds c.args.files.now) (option_map (λ l. l.now) o))) (sym c.in-Some.is) c.documents_in.ensures.err
