use Rattle.std.proofs.Common.{ap, ◌∙◌}
use Rattle.basic_output.specs.PointerViews.{origin_view}
use Rattle.evaluation_context.proofs.start.Start.of.Goals as goal

pub returns : goal.returns
returns c = record {
  origin = ap origin_view c.in_ok-origin.ensures.ok ∙ c.in_ok-within.ensures.there;
  path = c.in_ok-running.ensures.path;
  instance_location = c.in_ok-running.ensures.instance_location;
  running = c.in_ok-running.ensures.running;
}
