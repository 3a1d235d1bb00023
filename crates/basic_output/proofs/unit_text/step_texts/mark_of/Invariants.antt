use Rattle.std.proofs.Common.{◌≡◌, ◌≤◌, ◌<◌, take, true}
use Rattle.std.specs.List.{list_all}
use Rattle.basic_output.specs.Notations.{stands_in_pointer}
use Rattle.basic_output.specs.Pieces.{is_plain}
use Rattle.basic_output.proofs.unit_text.step_texts.mark_of.Given as goal

abbrev pub invariant-loop-byte : goal.invariant-loop-byte
invariant-loop-byte l = record {
  plain : l.mark ≤ 48 → list_all is_plain (take l.byte-index l.bytes) ≡ true;
  pointer : l.mark < 51 → list_all stands_in_pointer (take l.byte-index l.bytes) ≡ true;
}
