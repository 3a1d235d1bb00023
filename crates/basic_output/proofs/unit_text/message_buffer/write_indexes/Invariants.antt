use Rattle.std.proofs.Common.{◌≡◌, ◌++◌, drop}
use Rattle.basic_output.specs.Pieces.{index_tokens}
use Rattle.basic_output.proofs.unit_text.message_buffer.write_indexes.Given as goal

-- what is left to be written makes the list whole
abbrev pub invariant-loop-index : goal.invariant-loop-index
invariant-loop-index l = record {
  tokens : l.out.tokens ++ index_tokens (drop l.index-index l.indexes) ≡ l.initial.out.tokens ++ index_tokens l.indexes;
  before : l.out.before ≡ l.initial.out.before;
}
