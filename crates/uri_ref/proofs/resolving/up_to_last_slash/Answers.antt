use Rattle.std.proofs.Common.{◌≡◌, ◌+◌, take, rules, ◌∙◌}
use Rattle.uri_ref.proofs.Bases.{up_to, up_none, boundary_past}
use Rattle.uri_ref.proofs.resolving.up_to_last_slash.Goals as goal

pub range-requires-clause-end_boundary : goal.range-requires-clause-end_boundary
range-requires-clause-end_boundary c = boundary_past c.args.path.now c.in-Some.at c.utf8.path c.in-Some.ensures

pub returns-in-Some : goal.returns-in-Some
returns-in-Some c =
    let run : c.range.result.now ≡ take (c.in-Some.at + 1) c.args.path.now = search rules in
    run ∙ up_to c.args.path.now c.in-Some.at c.in-Some.ensures

pub returns-in-None : goal.returns-in-None
returns-in-None c = up_none c.args.path.now c.in-None.ensures
