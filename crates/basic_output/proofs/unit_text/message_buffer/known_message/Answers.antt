use Rattle.std.proofs.Common.{◌≡◌, Some, ap, sym, subst}
use Rattle.std.proofs.lemmas.Option.{IfSome_then}
use Rattle.definitions.specs.Texts.{text}
use Rattle.definitions.specs.Values.{Text, Value, as_string, string}
use Rattle.json_doc.specs.Docs.{value}
use Rattle.basic_output.specs.Parts.{message_text}
use Rattle.basic_output.specs.Sayings.{says_value}
use Rattle.lemmas.proofs.SomeValues.{none_some, some_same}
use Rattle.basic_output.proofs.unit_text.message_buffer.known_message.Goals as goal

string_is : (v : Value) (t : Text) → as_string v ≡ Some t → v ≡ string t
string_is (string s) t h = ap string (some_same h)
string_is v t h = absurd (none_some h)

pub returns-in_ok-as_str-in-Value : goal.returns-in_ok-as_str-in-Value
returns-in_ok-as_str-in-Value c =
    let v = value c.in-Value.doc.now in
    let t = c.in_ok-as_str-in-Value.field-0.now in
    let is_string : v ≡ string t = string_is v t (sym c.in_ok-as_str-in-Value.ensures) in
    IfSome_then c.unescaped_string.result c.unescaped_string.ensures
    (λ message is. subst (λ s. message_text message ≡ text (says_value s)) (sym c.in-Value.is) (subst (λ v. message_text message ≡ text v) (sym is_string) is))
