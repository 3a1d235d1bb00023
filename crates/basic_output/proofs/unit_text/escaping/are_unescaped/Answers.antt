use Rattle.json.proofs.Printed.Plain.{escape_on_plain}
use Rattle.basic_output.proofs.unit_text.escaping.are_unescaped.Goals as goal

pub returns-then-bytes-ge16 : goal.returns-then-bytes-ge16
returns-then-bytes-ge16 c = escape_on_plain c.are_many_unescaped.result c.args.bytes.now c.are_many_unescaped.ensures

pub returns-then-bytes-ge4 : goal.returns-then-bytes-ge4
returns-then-bytes-ge4 c = escape_on_plain c.are_many_unescaped-then-bytes-ge4.result c.args.bytes.now c.are_many_unescaped-then-bytes-ge4.ensures

pub returns-then-not-is_empty : goal.returns-then-not-is_empty
returns-then-not-is_empty c = escape_on_plain c.are_many_unescaped-then-not-is_empty.result c.args.bytes.now c.are_many_unescaped-then-not-is_empty.ensures
