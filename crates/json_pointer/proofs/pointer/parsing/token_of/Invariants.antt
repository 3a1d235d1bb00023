use Rattle.std.proofs.Common.{◌≡◌, length, string_bytes}
use denote.Text.{Utf8}
use denote.Shadow.{shadow}
use Rattle.definitions.specs.Pointers.{unescaped_token}
use Rattle.json_pointer.proofs.Unescaped.{resumed}
use Rattle.json_pointer.proofs.pointer.parsing.token_of.Given as goal

abbrev pub invariant-loop-before : goal.invariant-loop-before
invariant-loop-before l = record {
  utf8 : shadow (Utf8 l.rest);
  read : resumed (string_bytes l.token) (unescaped_token l.rest) ≡ unescaped_token l.fn.part;
}

abbrev pub decreases-loop-before : goal.decreases-loop-before
decreases-loop-before l = length l.rest
