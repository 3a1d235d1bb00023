use Rattle.std.proofs.Common.{◌≡◌, ◌++◌, flat_map, length, string_bytes}
use denote.Text.{Utf8}
use denote.Shadow.{shadow}
use Rattle.definitions.specs.Pointers.{escaped_byte}
use Rattle.json_pointer.proofs.pointer.push_escaped.Given as goal

abbrev pub invariant-loop-end : goal.invariant-loop-end
invariant-loop-end l = record {
  utf8 : shadow (Utf8 l.rest);
  written : string_bytes l.text ++ flat_map escaped_byte l.rest ≡ string_bytes l.initial.text ++ flat_map escaped_byte l.fn.token;
}

abbrev pub decreases-loop-end : goal.decreases-loop-end
decreases-loop-end l = length l.rest
