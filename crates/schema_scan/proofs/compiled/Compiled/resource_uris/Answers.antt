use Rattle.std.proofs.Common.{map, string_bytes, ap, ◌∙◌}
use Rattle.schema_table.specs.Gathering.{table_uris}
use Rattle.schema_scan.proofs.Owned.{owned-uris}
use Rattle.schema_scan.proofs.compiled.Compiled.resource_uris.Goals as goal

pub returns : goal.returns
unfolding table_uris
returns c = ap (map string_bytes) c.as_slice.ensures.value ∙ owned-uris c.args.self.now
