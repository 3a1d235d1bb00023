use Rattle.std.proofs.Common.{map, option_map, string_bytes}
use Rattle.patterns.proofs.Searches.{filled_from}
use Rattle.patterns.proofs.machine.tables.Goals as goal

pub returns-in-Ok-compile-clause-ok : goal.returns-in-Ok-compile-clause-ok
returns-in-Ok-compile-clause-ok c = record {
  hir = c.in-Ok.parsed.hir;
  names = map (option_map string_bytes) c.in-Ok.parsed.names.items;
  reads = rw c.default.ensures at c.in-Ok.ensures.ok;
  implements = c.in-Ok-compile.ensures.tables;
  whole = c.matches_text.ensures.text c.if-not-matches_text.false;
  anchored = c.is_anchored_start.ensures.anchored;
  filled = filled_from _ c.min_len.result c.min_len.ensures.bound;
}
