use Rattle.std.proofs.Common.{sym, ap, ◌∙◌}
use Rattle.std.specs.List.{slice_get}
use Rattle.schema_table.specs.Gathering.{table_uris}
use Rattle.schema_scan.proofs.Known.{uri-there}
use Rattle.schema_scan.proofs.Owned.{owned-uris}
use Rattle.schema_scan.proofs.compiled.Compiled.resource_number.Goals as goal

pub returns : goal.returns
returns c = λ held.
    let d = c.args.self.now in
    let same = owned-uris d in
    let there = uri-there d c.args.uri.now held in
    sym (ap (λ us. slice_get us c.number.result) same) ∙ ap (slice_get (table_uris d.table)) c.number.ensures
    ∙ d.by_uri.found c.args.uri.now there.0 (ap (λ us. slice_get us there.0) same ∙ there.1)
