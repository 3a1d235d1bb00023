use Rattle.std.proofs.Common.{◌≡◌, ◌++◌, map, take, string_bytes}
use Rattle.basic_output.specs.Pieces.{later_texts}
use Rattle.basic_output.specs.Spans.{IsSpan, span_text, text_at}
use Rattle.basic_output.proofs.joined.write_runs.Given as goal

abbrev pub invariant-loop-place : goal.invariant-loop-place
invariant-loop-place l =
    record {
      is : IsSpan l.text l.run;
      written : string_bytes l.out ++ span_text l.text l.run
          ≡ string_bytes l.initial.out ++ (text_at l.text l.spans l.fn.first ++ later_texts (map (text_at l.text l.spans) (take l.place-index l.later)));
    }
