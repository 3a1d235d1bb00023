use Rattle.std.proofs.Common.{◌≡◌, ◌++◌, [], true, string_bytes, refl, ap, ap₂, ◌∙◌}
use Rattle.json.specs.Lex.{tokens}
use Rattle.json.specs.Print.{print}
use Rattle.serde_json.proofs.Texts.{print-outline}
use Rattle.definitions.specs.Values.{is_well_formed}
use Rattle.definitions.specs.Texts.{data_of}
use Rattle.json_doc.specs.Docs.{value}
use Rattle.json_doc.specs.Tokens.{value_tokens}
use Rattle.json_doc.proofs.Entries.{string_is_utf8}
use Rattle.json_doc.proofs.Texts.{read_back, value_back}
use Rattle.json_doc.proofs.writing.write.Goals as goal

printed : (c : goal.After-from_utf8_unchecked) → string_bytes c.from_utf8_unchecked.result ≡ print (value_tokens (value c.args.doc.now))
printed c =
    let v = value c.args.doc.now in
    let written : c.write_doc.new.out.tokens ≡ value_tokens v = c.in_ok-write_doc.ensures.ok ∙ ap (λ ts. ts ++ value_tokens v) c.new-out.ensures.tokens in
    let before : c.write_doc.new.out.before ≡ [] = c.in_ok-write_doc.ensures.before ∙ c.new-out.ensures.before ∙ c.in_ok-with_capacity.ensures.items in
    ap (λ bytes. bytes.items) c.from_utf8_unchecked.ensures.value ∙ c.into_inner-bytes.ensures.items ∙ ap₂ (λ a b. a ++ print b) before written

pub returns-clause-text : goal.returns-clause-text
returns-clause-text c = printed c ∙ print-outline (data_of (value c.args.doc.now))

pub returns-clause-reads_back : goal.returns-clause-reads_back
returns-clause-reads_back c shallow =
    let v = value c.args.doc.now in
    let bytes = string_bytes c.from_utf8_unchecked.result in
    let written : c.write_doc.new.out.tokens ≡ value_tokens v = c.in_ok-write_doc.ensures.ok ∙ ap (λ ts. ts ++ value_tokens v) c.new-out.ensures.tokens in
    let same : tokens bytes ≡ value_tokens v = ap tokens (printed c) ∙ rw written at c.into_inner-bytes.ensures.reads_back in
    let formed : is_well_formed v ≡ true = c.in_ok-write_doc.ensures.well_formed in
    rw (string_is_utf8 c.from_utf8_unchecked.result, read_back v bytes formed shallow same, value_back v) refl
