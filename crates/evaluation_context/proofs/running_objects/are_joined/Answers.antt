use Rattle.std.proofs.Common.{◌++◌, ◌∙◌}
use Rattle.locations.specs.Steps.{tokens}
use Rattle.evaluation_context.proofs.RunningLaws.{turned}
use Rattle.evaluation_context.proofs.running_objects.are_joined.Goals as goal

pub returns-else-first-other_first : goal.returns-else-first-other_first
returns-else-first-other_first c =
    c.are_joined_within-else-first-other_first.ensures ∙ turned (tokens c.args.other_first.now ++ tokens c.args.other_second.now) (tokens c.args.first.now ++ tokens c.args.second.now)
