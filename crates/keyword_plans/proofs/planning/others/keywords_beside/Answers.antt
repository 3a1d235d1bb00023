use Rattle.keyword_plans.proofs.Patterns.{patterns_beside}
use Rattle.keyword_plans.proofs.planning.others.keywords_beside.Goals as goal

pub returns : goal.returns
returns c a shows =
    record {
      properties = c.members_beside.ensures a shows.schema;
      patterns = c.members_beside-2.ensures a shows.schema;
      inside = patterns_beside c.args.application.now a shows;
    }
