use Rattle.std.proofs.Common.{[], string_bytes}
use Rattle.file_forms.specs.Checks.{state_with}
use Rattle.schemareg.specs.Outputs.{given_text}
use Rattle.schemareg.proofs.forms.FileSystemForms.scan.Goals as goal

pub returns-clause-ends : goal.returns-clause-ends
returns-clause-ends g c =
    let output = c.scan-status.new.console.output in
    record {
      end = state_with (given_text (g.O.ByteWriter.writes output.stream) output.lost (string_bytes output.pending)) [] c.scan-status.result;
      ends = c.scan-status.ensures;
      shown = c.end.ensures.shown;
    }
