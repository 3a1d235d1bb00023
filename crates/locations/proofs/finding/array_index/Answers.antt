use Rattle.std.proofs.Common.{◌≤◌, get_or, ◌∙◌, rules}
use Rattle.locations.proofs.Indexes.{index_parsed}
use Rattle.locations.proofs.finding.array_index.Goals as goal

pub returns-in-49-to-57 : goal.returns-in-49-to-57
returns-in-49-to-57 c =
    let low : 49 ≤ get_or c.args.token.now 0 0 = search rules in
    c.ok.ensures.value ∙ index_parsed c.args.token.now c.parse.result low c.parse.ensures.value.0
