use Rattle.std.proofs.Common.{◌≡◌, drop}
use Rattle.request_heads.specs.Fields.{values_at}
use Rattle.request_heads.proofs.fields.next_named.Given as goal

abbrev pub invariant-loop-at : goal.invariant-loop-at
invariant-loop-at l = values_at l.name l.window (drop l.from l.headers) ≡ values_at l.name l.window (drop l.at l.headers)
