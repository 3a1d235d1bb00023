use Rattle.std.proofs.Common.{◌≡◌, ◌≤◌, ◌++◌, length, map}
use Rattle.std.specs.Vec.Iter.{into_iter_items, into_iter_len}
use Rattle.requests.specs.Views.{reply_view}
use Rattle.tenant_hub.specs.Hubs.{hub_view}
use Rattle.benchmark.specs.Counts.{answered_count}
use Rattle.benchmark.proofs.asking.answered.Given as goal

abbrev pub invariant-loop-reply : goal.invariant-loop-reply
invariant-loop-reply l = record {
  all : l.yielded ++ into_iter_items l.reply-iterator ≡ into_iter_items l.initial.reply-iterator;
  few : l.count ≤ length l.yielded;
  counted : l.count ≡ answered_count (map reply_view l.yielded);
  left : into_iter_len l.reply-iterator ≡ length (into_iter_items l.reply-iterator);
  same : hub_view l.hub ≡ hub_view l.initial.hub;
}
