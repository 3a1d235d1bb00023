-- A whole message at the front.
use Rattle.std.proofs.Common.{refl, sym, ap, ◌∙◌, arith, length-append}
use Rattle.std.specs.Prelude.{◌≡◌, ◌<◌, ◌≤◌, ◌+◌, [], ◌++◌, cond, Bool, true, false, length, take, drop, Some}
use Rattle.std.specs.Str.{is_utf8}
use Rattle.std.proofs.lemmas.List.{take-append-drop, length-take-le}
use Rattle.std.proofs.lemmas.Str.{is_utf8-from_IsUtf8, IsUtf8-from_is_utf8}
use Rattle.std.specs.Prelude.{IsUtf8}
use Rattle.httparse.specs.Grammar.{print_request}
use Rattle.definitions.specs.Values.{Text}
use Rattle.http_laws.proofs.HeadEnds.{printed_head_has_bytes}
use Rattle.http_definitions.specs.Streams.{Message}
use Rattle.request_heads.specs.Fronts.{HasHeading}
use Rattle.request_heads.specs.declared.headings.Heading.{Heading}
use Rattle.connections.specs.Messages.{IsMessage, HasMessage}

-- the body is whole
pub whole_message : (bytes : Text) (x : Heading) → HasHeading bytes x → x.body_len + x.head_len ≤ length bytes → HasMessage bytes x
whole_message bytes x h long =
    let body = take x.body_len h.1 in
    let rest = drop x.body_len h.1 in
    let enough : x.body_len ≤ length h.1 = omega (arith, long, h.3.head_len, ap length h.2.0.1, length-append (print_request h.0) h.1) in
    let size : length body ≡ x.body_len = length-take-le x.body_len h.1 enough in
    let m : Message = record { head = h.0; body = body } in (
      m,
      record {
        more = rest;
        begins = (((h.2.0.0, h.2.0.1 ∙ ap (λ t. print_request h.0 ++ t) (sym (take-append-drop x.body_len h.1))), h.2.1), h.3.body_len ∙ ap Some (sym size));
        heading = h.3;
      },
    )

pub message_size : (bytes : Text) (x : Heading) (m : Message) → IsMessage bytes x m → length m.body ≡ x.body_len
message_size bytes x m is =
    let same : Some (length m.body) ≡ Some x.body_len = sym is.begins.1 ∙ is.heading.body_len in
    cc same

pub message_fits : (bytes : Text) (x : Heading) → HasMessage bytes x → (0 < x.head_len + x.body_len) × (x.head_len + x.body_len ≤ length bytes)
message_fits bytes x h =
    let m = h.0 in
    let is = h.1 in
    let whole = ap length is.begins.0.0.1 in
    let parts = length-append (print_request m.head) (m.body ++ is.more) in
    let body = length-append m.body is.more in
    let head = printed_head_has_bytes m.head in
    (omega (arith, head, is.heading.head_len), omega (arith, whole, parts, body, is.heading.head_len, message_size bytes x m is))

-- ---- texts
pub text_is : (bytes text : Text) → text ≡ bytes → IsUtf8 bytes → text ≡ cond (is_utf8 bytes) bytes []
text_is bytes text same utf8 = same ∙ sym (ap (λ t. cond t bytes []) (is_utf8-from_IsUtf8 bytes utf8))

pub no_text_is : (bytes : Text) → ¬ (IsUtf8 bytes) → [] ≡ cond (is_utf8 bytes) bytes []
no_text_is bytes ill = sym (either (is_utf8 bytes) refl)
  where
    either : (t : Bool) → is_utf8 bytes ≡ t → cond t bytes [] ≡ []
    either true e = absurd (ill (IsUtf8-from_is_utf8 bytes e))
    either false e = refl
