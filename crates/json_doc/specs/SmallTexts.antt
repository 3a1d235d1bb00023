-- The bytes of a text that may stand in the value itself, and the order of such texts.
use Rattle.std.specs.Prelude.{take, string_bytes}
use Rattle.std.specs.Cmp.Lexicographic.{slice_cmp}
use Rattle.std.specs.Ordering.{nat_cmp}
use Rattle.std.specs.declared.cmp.Ordering.{Ordering}
use Rattle.definitions.specs.Values.{Text}
use Rattle.json_doc.specs.declared.short_text.ShortText.{ShortText}
use Rattle.json_doc.specs.declared.small_text.SmallText.{SmallText}
use Rattle.json_doc.specs.declared.small_text.SmallText.TheVariants.{Short, Keyword, Long}
use Rattle.keywords.specs.Rows.{row_of}

abbrev pub short_text : ShortText → Text
short_text s = take s.len s.bytes

abbrev pub text_view : SmallText → Text
text_view (Short s) = short_text s
text_view (Keyword k) = (row_of k).name
text_view (Long s) = string_bytes s

-- byte by byte
abbrev pub text_cmp : SmallText → SmallText → Ordering
text_cmp s t = slice_cmp nat_cmp (text_view s) (text_view t)
