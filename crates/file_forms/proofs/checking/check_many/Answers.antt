use Rattle.std.proofs.Common.{◌∙◌}
use Rattle.command_line.specs.Calls.{checks_view}
use Rattle.file_forms.proofs.Ended.{ends_checked, ends_refused, ends_unchecked}
use Rattle.file_forms.proofs.checking.check_many.Goals as goal

pub returns-in-Ok-Some : goal.returns-in-Ok-Some
returns-in-Ok-Some g c =
    ends_checked (g.F.Folders.holds c.args.files.now) (g.F.Folders.lists c.args.files.now) (g.F.Folders.runs_in c.args.files.now) (checks_view c.args.checks.now) c.in-Ok-Some.field-0
    c.in-Ok-Some.linked _ _ _ _ _ _ _ c.in-Ok-Some.field-0-is c.in-Ok-Some.ensures.ok c.linked_schema.ensures.printed c.check_linked.ensures

pub returns-in-Ok-None : goal.returns-in-Ok-None
returns-in-Ok-None g c =
    ends_unchecked (g.F.Folders.holds c.args.files.now) (g.F.Folders.lists c.args.files.now) (g.F.Folders.runs_in c.args.files.now) (checks_view c.args.checks.now) c.in-Ok-None.field-0
    _ _ _ _ _ _ c.in-Ok-None.field-0-is c.in-Ok-None.ensures.ok c.linked_schema.ensures.printed

pub returns-in-Err : goal.returns-in-Err
returns-in-Err g c =
    ends_refused (g.F.Folders.holds c.args.files.now) (g.F.Folders.lists c.args.files.now) (g.F.Folders.runs_in c.args.files.now) (checks_view c.args.checks.now) _ _ c.in-Err.trouble
    _ _ _ _ _ c.in-Err.ensures.err c.in-Err.ensures.untold (c.tell.ensures.printed ∙ c.linked_schema.ensures.printed) c.tell.ensures.told
