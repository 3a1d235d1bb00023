use Rattle.std.proofs.Common.{◌≡◌, map, drop, string_bytes}
use Rattle.definitions.specs.Lists.{has_repeat}
use Rattle.definitions.specs.Values.{same_text}
use Rattle.tenants_file.proofs.keys.have_repeat.Given as goal

abbrev pub invariant-loop-index : goal.invariant-loop-index
invariant-loop-index l =
    has_repeat same_text (map (λ t. string_bytes t.key) (drop l.index l.tenants)) ≡ has_repeat same_text (map (λ t. string_bytes t.key) l.tenants)
