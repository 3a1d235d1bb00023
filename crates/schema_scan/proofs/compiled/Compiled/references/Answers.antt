use Rattle.std.proofs.Common.{map, string_bytes, ap, ◌∙◌}
use Rattle.schema_table.specs.Gathering.{table_references}
use Rattle.schema_scan.proofs.Owned.{owned-references}
use Rattle.schema_scan.proofs.compiled.Compiled.references.Goals as goal

pub returns : goal.returns
unfolding table_references
returns c = ap (map string_bytes) c.as_slice.ensures.value ∙ owned-references c.args.self.now
