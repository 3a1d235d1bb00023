use Rattle.std.proofs.Common.{◌-◌, length}
use Rattle.request_heads.specs.Searches.{IsSearched}
use Rattle.request_heads.proofs.fronts.look.Given as goal

abbrev pub invariant-loop-search : goal.invariant-loop-search
invariant-loop-search l = IsSearched l.bytes l.search

abbrev pub decreases-loop-search : goal.decreases-loop-search
decreases-loop-search l = length l.bytes - l.search.len
