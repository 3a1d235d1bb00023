use Rattle.std.proofs.Common.{◌≡◌, ◌==◌, map, drop, length, string_bytes}
use Rattle.std.specs.List.{slice_split}
use Rattle.definitions.specs.Pointers.{unescaped_token}
use Rattle.definitions.specs.Lists.{each}
use Rattle.json_pointer.proofs.Unescaped.{resumed}
use Rattle.json_pointer.proofs.pointer.parsing.tokens_of.Given as goal

abbrev pub invariant-loop-part : goal.invariant-loop-part
invariant-loop-part l =
    resumed (map string_bytes l.tokens.items) (each unescaped_token (drop (length l.yielded) (slice_split (λ d. d == 47) l.fn.text)))
    ≡ each unescaped_token (slice_split (λ d. d == 47) l.fn.text)
