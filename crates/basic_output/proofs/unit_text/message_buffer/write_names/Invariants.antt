use Rattle.std.proofs.Common.{◌≡◌, ◌++◌, drop}
use Rattle.basic_output.specs.Pieces.{name_tokens}
use Rattle.basic_output.proofs.unit_text.message_buffer.write_names.Given as goal

-- what is left to be written makes the list whole
abbrev pub invariant-loop-name : goal.invariant-loop-name
invariant-loop-name l = record {
  tokens : l.out.tokens ++ name_tokens (drop l.name-index l.names) ≡ l.initial.out.tokens ++ name_tokens l.names;
  before : l.out.before ≡ l.initial.out.before;
}
