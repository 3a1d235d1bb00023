-- Texts in buffers.
use Rattle.std.specs.Prelude.{take}
use Rattle.definitions.specs.Values.{Text}
use Rattle.basic_output.specs.declared.unit_text.buffer.TextBuffer.{TextBuffer}

unfoldable pub buffer_text : TextBuffer → Text
buffer_text b = take b.len b.bytes.items
