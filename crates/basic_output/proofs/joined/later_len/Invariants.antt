use Rattle.std.proofs.Common.{◌≡◌, ◌-◌, ◌^◌, length, map, min, take}
use Rattle.basic_output.specs.Pieces.{later_texts}
use Rattle.basic_output.specs.Spans.{text_at}
use Rattle.basic_output.proofs.joined.later_len.Given as goal

abbrev pub invariant-loop-place : goal.invariant-loop-place
invariant-loop-place l = l.count ≡ min (length (later_texts (map (text_at l.text l.spans) (take l.place-index l.order)))) (2 ^ 64 - 1)
