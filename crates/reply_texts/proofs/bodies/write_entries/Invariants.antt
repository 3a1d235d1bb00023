use Rattle.std.proofs.Common.{◌≡◌, ◌++◌, map, drop}
use Rattle.requests.specs.Views.{stored_entry_view}
use Rattle.reply_texts.specs.Bodies.{elements_tokens}
use Rattle.reply_texts.proofs.bodies.write_entries.Given as goal

-- what is left to be written makes the text whole
abbrev pub invariant-loop-entry : goal.invariant-loop-entry
invariant-loop-entry l = record {
  tokens : l.out.tokens ++ elements_tokens (map stored_entry_view (drop l.entry-index l.entries))
      ≡ l.initial.out.tokens ++ elements_tokens (map stored_entry_view l.entries);
  before : l.out.before ≡ l.initial.out.before;
}
