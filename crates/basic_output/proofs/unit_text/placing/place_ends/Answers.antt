use Rattle.std.proofs.Common.{◌-◌, rules, length}
use Rattle.std.proofs.lemmas.List.{take_rest}
use Rattle.json.proofs.Printed.Places.{Placed-ends}
use Rattle.basic_output.proofs.unit_text.placing.place_ends.Goals as goal

pub returns : goal.returns
returns g c =
    let from = c.args.from.now in
    Placed-ends from g.row.N (search rules) c.requires.covers.0 c.requires.covers.1 c.place_first.ensures
    (rw (take_rest from (length from - g.row.N)) at c.place_first-2.ensures)
