-- Texts in buffers, as they grow and are cut back.
use Rattle.std.proofs.Common.{◌≡◌, ◌≤◌, ◌++◌, ◌∙◌, ℕ, length, take, true, ap, subst, sym}
use Rattle.std.proofs.lemmas.List.{take-take, with_items_is}
use Rattle.std.proofs.lemmas.Str.{IsCharBoundary-start, IsUtf8-append, IsUtf8-from_is_utf8, IsUtf8-take, is_utf8-from_IsUtf8}
use Rattle.std.specs.Vec.{with_items}
use Rattle.std.specs.Str.{IsCharBoundary, IsUtf8, is_utf8}
use Rattle.lemmas.proofs.Appended.{appended}
use Rattle.definitions.specs.Values.{Text}
use Rattle.basic_output.specs.Buffers.{buffer_text}
use Rattle.basic_output.specs.WrittenOver.{IsWrittenOver}
use Rattle.basic_output.specs.declared.unit_text.buffer.TextBuffer.{TextBuffer}

pub whole_buffer : (b : TextBuffer) → IsUtf8 (buffer_text b)
unfolding buffer_text
whole_buffer b = IsUtf8-from_is_utf8 (take b.len b.bytes.items) b.utf8

pub whole_start : (b : TextBuffer) → IsCharBoundary (buffer_text b) 0
whole_start b = IsCharBoundary-start (buffer_text b) (whole_buffer b)

-- what a text leaves that is written behind it
pub written_behind : (b : TextBuffer) {end : ℕ} {more new : Text} → IsWrittenOver b.len end more b.bytes.items new → is_utf8 (take end new) ≡ true
written_behind b {end} {more} {new} is =
    let text = take b.len b.bytes.items in
    ap is_utf8 is.written ∙ is_utf8-from_IsUtf8 (text ++ more) (IsUtf8-append text more (IsUtf8-from_is_utf8 text b.utf8) (IsUtf8-from_is_utf8 more is.utf8))

-- the bytes behind a call that writes over their slice
pub written_in : (b : TextBuffer) {end : ℕ} {more slice new : Text} → slice ≡ b.bytes.items → length new ≡ length slice → IsWrittenOver b.len end more slice new → IsWrittenOver b.len end more b.bytes.items (with_items b.bytes new).items
written_in b {end} {more} {slice} {new} same len is =
    let there = sym (with_items_is b.bytes new (len ∙ ap length same ∙ sym b.bytes.ok.0)) in
    subst (λ old. IsWrittenOver b.len end more old (with_items b.bytes new).items) same (subst (λ bytes. IsWrittenOver b.len end more slice bytes) there is)

-- what is left of it
pub cut_buffer : (b : TextBuffer) (len : ℕ) → len ≤ b.len → IsCharBoundary (buffer_text b) len → is_utf8 (take len b.bytes.items) ≡ true
unfolding buffer_text
cut_buffer b len le there =
    let text = take b.len b.bytes.items in
    ap is_utf8 (sym (take-take len b.len b.bytes.items le)) ∙ is_utf8-from_IsUtf8 (take len text) (IsUtf8-take text len (IsUtf8-from_is_utf8 text b.utf8) there)

-- one text behind another
pub written_on : {start middle end : ℕ} {a b old new newer : Text} → IsWrittenOver start middle a old new → IsWrittenOver middle end b new newer → IsWrittenOver start end (a ++ b) old newer
written_on {start} {middle} {end} {a} {b} {old} {new} {newer} first next = record {
  within = next.within;
  written = appended (take start old) (take middle new) (take end newer) a b first.written next.written;
  utf8 = is_utf8-from_IsUtf8 (a ++ b) (IsUtf8-append a b (IsUtf8-from_is_utf8 a first.utf8) (IsUtf8-from_is_utf8 b next.utf8));
}
