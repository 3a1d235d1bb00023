use Rattle.std.proofs.Common.{◌≡◌, ◌≤◌, ◌-◌, codes, length, drop}
use Rattle.std.specs.List.{list_any}
use Rattle.http_definitions.specs.Heads.{asks_to_close}
use Rattle.request_heads.specs.Fields.{values_at}
use Rattle.request_heads.proofs.fields.asks_to_close_by.Given as goal

abbrev pub invariant-loop-named : goal.invariant-loop-named
invariant-loop-named l = record {
  within : l.at ≤ length l.headers;
  same : list_any asks_to_close (values_at (codes "connection") l.window l.headers) ≡ list_any asks_to_close (values_at (codes "connection") l.window (drop l.at l.headers));
}

abbrev pub decreases-loop-named : goal.decreases-loop-named
decreases-loop-named l = length l.headers - l.at
