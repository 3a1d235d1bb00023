use Rattle.std.proofs.Common.{inl, inr, string_bytes}
use Rattle.file_forms.proofs.Gathers.{somewhere}
use Rattle.file_forms.proofs.gathering.Gathered.add_root.Goals as goal

pub returns-in-Err-clause-err : goal.returns-in-Err-clause-err
returns-in-Err-clause-err g c = inr (inl c.in-Err.ensures.err)

pub returns-in-Ok-clause-ok : goal.returns-in-Ok-clause-ok
returns-in-Ok-clause-ok g c =
    somewhere (g.F.Folders.holds c.args.files.now) _ c.args.path.now (string_bytes c.in-Ok.place) _ c.add_at.result _ _ c.add_at.ensures.ok
