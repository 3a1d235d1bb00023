-- The texts that `Units` shows.
use Rattle.std.specs.Prelude.{List}
use Rattle.definitions.specs.Values.{Text}
use Rattle.basic_output.specs.Buffers.{buffer_text}
use Rattle.basic_output.specs.Spans.{texts_in_order}
use Rattle.basic_output.specs.declared.units.Units.{Units}

unfoldable pub unit_texts : Units → List Text
unit_texts u = texts_in_order (buffer_text u.text) u.spans.items u.order.items
