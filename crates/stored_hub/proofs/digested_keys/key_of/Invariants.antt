use Rattle.std.proofs.Common.{◌≡◌, drop}
use Rattle.std.specs.List.{list_any}
use Rattle.definitions.specs.Values.{same_text}
use Rattle.stored_hub.specs.DigestedKeys.{digests_in}
use Rattle.stored_hub.proofs.digested_keys.key_of.Given as goal

-- what is left decides
abbrev pub invariant-loop-place : goal.invariant-loop-place
invariant-loop-place l = list_any (same_text l.tenant) (digests_in (drop l.place l.keys)) ≡ list_any (same_text l.tenant) (digests_in l.keys)
