use Rattle.std.proofs.Common.{◌≡◌, ◌++◌, string_bytes, ap, ◌∙◌}
use Rattle.json.specs.Print.{print}
use Rattle.serde_json.proofs.Texts.{print-outline}
use Rattle.definitions.specs.Texts.{data_of, text}
use Rattle.json_doc.specs.Tokens.{value_tokens}
use Rattle.basic_output.specs.Sayings.{says_value}
use Rattle.basic_output.specs.declared.unit_text.message_buffer.MessageBuffer.{MessageBuffer}
use Rattle.basic_output.proofs.unit_text.message_buffer.MessageBuffer.write.Goals.{in-Names+in_ok-keep, in_default}
use Rattle.basic_output.proofs.unit_text.message_buffer.MessageBuffer.write.Goals as goal

pub returns : goal.returns
returns c =
    let v = says_value c.args.says in
    let all = c.written_by.ensures ∙ ap print (c.in_ok-write_says.ensures.tokens ∙ ap (λ ts. ts ++ value_tokens v) c.writer_over-out.ensures.tokens) ∙ print-outline (data_of v) in
    let same : string_bytes c.match-says.self.text ≡ text v =
    elim c.match-says.branch [ in-Names+in_ok-keep w ↦ ap (λ (s : MessageBuffer). string_bytes s.text) w.self-is ∙ all | in_default w ↦ ap (λ (s : MessageBuffer). string_bytes s.text) w.self-is ∙ all ] in
    c.as_str-2.ensures.value ∙ same

pub keep-requires : goal.keep-requires
keep-requires c =
    let v = says_value c.args.says in
    c.as_str.ensures.value ∙ c.written_by.ensures ∙ ap print (c.in_ok-write_says.ensures.tokens ∙ ap (λ ts. ts ++ value_tokens v) c.writer_over-out.ensures.tokens) ∙ print-outline (data_of v)
    ∙ ap (λ s. text (says_value s)) c.in-Names.is
