use Rattle.std.proofs.Common.{inl}
use Rattle.file_forms.specs.Roots.{given_view}
use Rattle.file_forms.proofs.Rooted.{is_linked_schema, is_unlinked_schema, no_schema, untold_root}
use Rattle.file_forms.proofs.roots.linked_schema.Goals as goal

pub returns-in-Ok-clause-ok : goal.returns-in-Ok-clause-ok
returns-in-Ok-clause-ok g c =
    is_linked_schema (g.F.Folders.holds c.args.files.now) (g.F.Folders.lists c.args.files.now) (g.F.Folders.runs_in c.args.files.now) (given_view c.args.given.now) c.in-Ok-Some.field-0
    c.in-Ok-Some.root c.in-Ok.linked _ _ c.in-Ok-Some.field-0-is c.in-Ok-Some.ensures.ok c.in-Ok.ensures.ok

pub returns-in-Ok-Some-clause-err : goal.returns-in-Ok-Some-clause-err
returns-in-Ok-Some-clause-err g c =
    is_unlinked_schema (g.F.Folders.holds c.args.files.now) (g.F.Folders.lists c.args.files.now) (g.F.Folders.runs_in c.args.files.now) (given_view c.args.given.now) c.in-Ok-Some.field-0
    c.in-Ok-Some.root c.in-Err-link.trouble _ _ c.in-Ok-Some.field-0-is c.in-Ok-Some.ensures.ok c.in-Err-link.ensures.err

pub returns-in-Ok-Some-clause-untold : goal.returns-in-Ok-Some-clause-untold
returns-in-Ok-Some-clause-untold g c =
    untold_root (g.F.Folders.holds c.args.files.now) (g.F.Folders.lists c.args.files.now) (g.F.Folders.runs_in c.args.files.now) (given_view c.args.given.now) c.in-Ok-Some.field-0
    c.in-Ok-Some.root _ _ c.in-Ok-Some.field-0-is c.in-Ok-Some.ensures.ok

pub returns-in-Ok-None-clause-ok : goal.returns-in-Ok-None-clause-ok
returns-in-Ok-None-clause-ok g c =
    no_schema (g.F.Folders.holds c.args.files.now) (g.F.Folders.lists c.args.files.now) (g.F.Folders.runs_in c.args.files.now) (given_view c.args.given.now) c.in-Ok-None.field-0 _ _
    c.in-Ok-None.field-0-is c.in-Ok-None.ensures.ok

pub returns-clause-err : goal.returns-clause-err
returns-clause-err g c = inl c.in-Err.ensures.err
