use Rattle.std.proofs.Common.{refl}
use Rattle.schema_scan.specs.Scans.{scanned_base, scanned_value}
use Rattle.schema_scan.proofs.scanned.Scanned.into_table.Goals as goal

pub returns-clause-base : goal.returns-clause-base
unfolding scanned_base
returns-clause-base c = refl

pub returns-clause-table : goal.returns-clause-table
unfolding scanned_base scanned_value
returns-clause-table c = c.args.self.of_document.table
