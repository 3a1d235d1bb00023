-- Rows of the code as rows.
use Rattle.std.specs.Prelude.{string_bytes}
use Rattle.stored_rows.specs.Rows.{Row}
use Rattle.stored_rows.specs.declared.rows.DocumentRow.{DocumentRow}
use Rattle.stored_rows.specs.declared.rows.RowRef.{RowRef}

abbrev pub row_view : DocumentRow → Row
row_view r = record { tenant = string_bytes r.tenant; uri = string_bytes r.uri; base = string_bytes r.base; text = string_bytes r.text }

abbrev pub row_ref_view : RowRef → Row
row_ref_view r = record { tenant = r.tenant.now; uri = r.uri.now; base = r.base.now; text = r.text.now }
