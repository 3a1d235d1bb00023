use Rattle.std.proofs.Common.{◌≡◌, map, take}
use Rattle.stored_rows.specs.Rows.{digest}
use Rattle.stored_hub.specs.DigestedKeys.{digests_in}
use Rattle.stored_hub.proofs.digested_keys.digested_keys.Given as goal

abbrev pub invariant-loop-key : goal.invariant-loop-key
invariant-loop-key l = digests_in l.digested.items ≡ map digest (map (λ k. k.now) (take l.key-index l.key-items))
