use Rattle.std.proofs.Common.{ap, inl, inr}
use Rattle.file_forms.proofs.Going.{texts}
use Rattle.file_forms.proofs.gathering.Gathered.new.Goals as goal

pub returns-in-Err-clause-err : goal.returns-in-Err-clause-err
returns-in-Err-clause-err g c = inl c.in-Err.ensures.err

pub returns-in-Ok-current-clause-ok : goal.returns-in-Ok-current-clause-ok
returns-in-Ok-current-clause-ok g c = record { runs = c.in-Ok-current.ensures.ok; places = ap texts c.new.ensures.empty; documents = c.in-Ok.ensures.ok }

pub returns-in-Err-current-clause-err : goal.returns-in-Err-current-clause-err
returns-in-Err-current-clause-err g c = inr c.in-Err-current.ensures.err
