use Rattle.std.proofs.Common.{string_bytes}
use Rattle.file_forms.specs.Checks.{state_with}
use Rattle.schemareg.specs.Outputs.{bytes_in, given_text}
use Rattle.schemareg.proofs.Formed.{form_shown}
use Rattle.schemareg.proofs.forms.FileSystemForms.bundle.Goals as goal

pub returns-clause-ends : goal.returns-clause-ends
returns-clause-ends g c =
    let console = c.bundle-status.new.console in
    let printed = given_text (g.O.ByteWriter.writes console.output.stream) console.output.lost (string_bytes console.output.pending) in
    form_shown _ _ _ _ _ (state_with printed (bytes_in console.told) c.bundle-status.result) _ c.begin.ensures.printed c.begin.ensures.told c.bundle-status.ensures
    c.end.ensures.shown
