use Rattle.std.proofs.Common.{◌≡◌, drop}
use Rattle.definitions.specs.Lists.{has_repeat}
use Rattle.definitions.specs.Values.{same_text}
use Rattle.stored_hub.specs.DigestedKeys.{digests_in}
use Rattle.stored_hub.proofs.digested_keys.have_repeat.Given as goal

abbrev pub invariant-loop-index : goal.invariant-loop-index
invariant-loop-index l = has_repeat same_text (digests_in (drop l.index l.keys)) ≡ has_repeat same_text (digests_in l.keys)
