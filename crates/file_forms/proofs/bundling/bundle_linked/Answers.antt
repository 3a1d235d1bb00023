use Rattle.std.proofs.Common.{◌∙◌, inl, refl}
use Rattle.command_line.specs.Calls.{bundling_view}
use Rattle.file_forms.proofs.Ended.{ends_ungiven}
use Rattle.file_forms.proofs.bundling.bundle_linked.Goals as goal

pub returns-in-Ok : goal.returns-in-Ok
returns-in-Ok g c = inl (record { given = c.in-Ok.ensures.ok; untold = c.give.ensures.untold; status = refl })

pub returns-in-Err : goal.returns-in-Err
returns-in-Err g c =
    ends_ungiven (g.F.Folders.has_written c.args.files.now) (bundling_view c.args.bundling.now) c.args.linked.now c.in-Err.trouble _ _ _ _ _ c.in-Err.ensures.err c.give.ensures.untold
    (c.tell.ensures.printed ∙ c.in-Err.ensures.unprinted) c.tell.ensures.told
