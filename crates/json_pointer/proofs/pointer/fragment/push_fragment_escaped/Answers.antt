use Rattle.std.proofs.Common.{◌≡◌, ◌++◌, flat_map, string_bytes, rules, refl, sym, ap, ◌∙◌, append_assoc, get_or, drop, take, ◌+◌}
use Rattle.std.proofs.lemmas.List.Quantifiers.{position-Some}
use Rattle.std.proofs.lemmas.Str.{IsCharBoundary-before_ascii, IsCharBoundary-after_ascii}
use Rattle.definitions.specs.Pointers.{escaped_byte, percent_encoded_text}
use Rattle.json_pointer.specs.Escapes.{is_escaped}
use Rattle.json_pointer.proofs.Escaped.{no_escape, is_ascii}
use Rattle.json_pointer.proofs.Fragments.{fragment_at}
use Rattle.json_pointer.proofs.pointer.fragment.push_fragment_escaped.Goals as goal

pub range-requires-clause-end_boundary : goal.range-requires-clause-end_boundary
range-requires-clause-end_boundary c =
    let at = position-Some is_escaped c.loop-end.rest.now c.in-Some.end 0 (sym c.in-Some.ensures) in
    IsCharBoundary-before_ascii _ _ at.0 (is_ascii _ at.1)

pub escape_of-requires : goal.escape_of-requires
escape_of-requires c =
    let at = position-Some is_escaped c.loop-end.rest.now c.in-Some.end 0 (sym c.in-Some.ensures) in
    rw (c.as_bytes.ensures.value, at.1) refl

pub range_from-rest-requires : goal.range_from-rest-requires
range_from-rest-requires c _ =
    let at = position-Some is_escaped c.loop-end.rest.now c.in-Some.end 0 (sym c.in-Some.ensures) in
    IsCharBoundary-after_ascii _ _ c.loop-end.invariant.utf8 at.0 (is_ascii _ at.1)

pub loop-end-preserved : goal.loop-end-preserved
loop-end-preserved c = record {
  utf8 = c.range_from-rest.utf8;
  written =
      let text = string_bytes c.loop-end.text in
      let rest = c.loop-end.rest.now in
      let end = c.in-Some.end in
      let byte = escaped_byte (get_or rest end 0) in
      let before = percent_encoded_text (take end rest) in
      let after = percent_encoded_text (flat_map escaped_byte (drop (end + 1) rest)) in
      let run : c.range.result.now ≡ take end rest = search rules in
      let escape : c.escape_of.result.now ≡ byte = c.escape_of.ensures ∙ ap (λ bs. escaped_byte (get_or bs end 0)) c.as_bytes.ensures.value in
      let first : string_bytes c.push_percent_encoded.new.text ≡ text ++ before = c.in_ok-push_percent_encoded.ensures ∙ ap (λ bs. text ++ percent_encoded_text bs) run in
      let pushed : string_bytes c.push_str.new.self ≡ (text ++ before) ++ byte = rw (c.in_ok-push_str.ensures.bytes, first, escape) in
      rw (pushed, c.range_from-rest.ensures.value, append_assoc (text ++ before) byte after, append_assoc text before (byte ++ after), ← fragment_at rest end (sym c.in-Some.ensures))
      c.loop-end.invariant.written;
}

pub returns : goal.returns
returns c =
    let plain = no_escape c.loop-end.rest.now (sym c.in_default.ensures) in
    rw c.in_ok-push_percent_encoded-2.ensures (rw plain at c.loop-end.invariant.written)
