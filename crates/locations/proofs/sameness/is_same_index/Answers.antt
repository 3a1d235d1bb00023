use Rattle.std.proofs.Common.{◌<◌, ◌^◌, arith}
use Rattle.locations.proofs.SameTokens.{same_decimals}
use Rattle.locations.proofs.sameness.is_same_index.Goals as goal

pub returns : goal.returns
returns c =
    let fits_first : c.args.first < 2 ^ 64 = omega arith in
    let fits_second : c.args.second < 2 ^ 64 = omega arith in
    same_decimals c.args.first c.args.second fits_first fits_second
