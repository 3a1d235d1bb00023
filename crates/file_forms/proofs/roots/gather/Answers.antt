use Rattle.std.proofs.Common.{ap, inl, inr, option_map, subst, ⊎_elim}
use Rattle.command_line.specs.Calls.{documents_view}
use Rattle.file_forms.specs.Gathered.{IsPathTrouble}
use Rattle.file_forms.specs.Roots.{folder_of, gathering_of}
use Rattle.file_forms.specs.Told.{ToldUnless}
use Rattle.file_forms.proofs.Going.{names}
use Rattle.file_forms.proofs.Rooted.{are_gathered, trouble_of_schema, troubles_of_paths}
use Rattle.file_forms.proofs.roots.gather.Goals as goal

pub returns-in-Err-clause-err : goal.returns-in-Err-clause-err
returns-in-Err-clause-err g c = ⊎_elim (λ l. inl l) (λ u. inr (inl u)) c.in-Err.ensures.err

pub returns-in-Err-add_root-clause-err : goal.returns-in-Err-add_root-clause-err
returns-in-Err-add_root-clause-err g c =
    let given = c.args.given.now in
    trouble_of_schema (g.F.Folders.holds c.args.files.now) (g.F.Folders.runs_in c.args.files.now) (documents_view given.documents.now) given.schema.now (option_map (λ u. u.now) given.uri) _
    (names c.deref.result.now) (folder_of c.in-Ok.gathered) (gathering_of c.in-Ok.gathered) c.in-Err-add_root.trouble c.in-Ok.ensures.ok c.root_uri-uri.ensures (ap names c.deref.ensures.value)
    c.in-Err-add_root.ensures.err

pub returns-then-not-add_all-clause-ok : goal.returns-then-not-add_all-clause-ok
returns-then-not-add_all-clause-ok g c =
    let given = c.args.given.now in
    let holds = g.F.Folders.holds c.args.files.now in
    let later = folder_of c.add_root.new.self in
    troubles_of_paths holds (g.F.Folders.runs_in c.args.files.now) (documents_view given.documents.now) given.schema.now (option_map (λ u. u.now) given.uri) (folder_of c.in-Ok.gathered) later
    (gathering_of c.in-Ok.gathered) _ _ c.in-Ok.ensures.ok c.add_root.ensures.folder
    (subst (λ b. ToldUnless (IsPathTrouble holds later) b (g.C.Console.told c.args.console.now) (g.C.Console.told c.add_all.new.console)) c.if-not-add_all.true c.add_all.ensures.told)

pub returns-clause-ok : goal.returns-clause-ok
returns-clause-ok g c =
    let given = c.args.given.now in
    let holds = g.F.Folders.holds c.args.files.now in
    let later = folder_of c.add_root.new.self in (
      are_gathered holds (g.F.Folders.lists c.args.files.now) (g.F.Folders.runs_in c.args.files.now) (documents_view given.documents.now) given.schema.now (option_map (λ u. u.now) given.uri) _
          (names c.deref.result.now) (names c.deref-2.result.now) _ (folder_of c.in-Ok.gathered) later (gathering_of c.in-Ok.gathered) (gathering_of c.add_root.new.self)
          (gathering_of c.add_all.new.self) c.in-Ok.ensures.ok c.root_uri-uri.ensures (ap names c.deref.ensures.value) c.in-Ok-add_root.ensures.ok c.add_root.ensures.folder
          (ap names c.deref-2.ensures.value) (c.add_all.ensures.gathered c.if-not-add_all.false),
      subst (λ b. ToldUnless (IsPathTrouble holds later) b (g.C.Console.told c.args.console.now) (g.C.Console.told c.add_all.new.console)) c.if-not-add_all.false c.add_all.ensures.told,
    )
