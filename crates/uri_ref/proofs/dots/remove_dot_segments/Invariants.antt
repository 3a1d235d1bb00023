use Rattle.std.proofs.Common.{◌≡◌, length, string_bytes}
use denote.Text.{Utf8}
use denote.Shadow.{shadow}
use Rattle.definitions.specs.Resolution.{buffers_after, remove_dot_segments}
use Rattle.uri_ref.proofs.dots.remove_dot_segments.Given as goal

abbrev pub invariant-loop-rest : goal.invariant-loop-rest
invariant-loop-rest l = record {
  utf8 : shadow (Utf8 l.rest);
  same : (buffers_after (length l.rest) (l.rest, string_bytes l.output)).1 ≡ remove_dot_segments l.fn.path;
}

abbrev pub decreases-loop-rest : goal.decreases-loop-rest
decreases-loop-rest l = length l.rest
