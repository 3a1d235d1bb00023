-- What is kept of a head that is a whole window.
use Rattle.std.proofs.Common.{sym, ap, ap₂, ◌∙◌, subst}
use Rattle.std.specs.Prelude.{◌≡◌, ℕ, List, Bool, ◌||◌, ◌==◌, Option, Some, None, option_map, IfSome, All, length, take, map, codes}
use Rattle.std.specs.List.{list_any}
use Rattle.httparse.specs.Grammar.{RequestHead, print_request}
use Rattle.httparse.specs.Spans.{IsWithin, IsHeaderWithin, IsRequestAt, IsRequestWithin, span_bytes, header_bytes, name_and_value}
use Rattle.httparse.specs.declared.spans.Span.{Span}
use Rattle.httparse.specs.declared.spans.HeaderSpan.{HeaderSpan}
use Rattle.httparse.specs.declared.spans.RequestSpans.{RequestSpans}
use Rattle.definitions.specs.Values.{Text, entry}
use Rattle.http_definitions.specs.Heads.{asks_to_close, body_length, methods, values}
use Rattle.request_heads.specs.Fields.{values_at, first_of_values, body_length_at}
use Rattle.request_heads.specs.Headings.{IsHeading}
use Rattle.request_heads.specs.Methods.{method_text}
use Rattle.request_heads.specs.declared.headings.Heading.{Heading}
use Rattle.request_heads.specs.declared.methods.Method.{Method}
use Rattle.request_heads.proofs.FieldValues.{values_are, refused_by_method, body_is, body_bounded}
use Rattle.request_heads.proofs.Windows.{window_is}

-- what the fields are, by the part of the spans that the parser wrote
fields_are : (window : Text) (headers fields : List HeaderSpan) (r : RequestSpans) (h : RequestHead) → IsRequestAt window headers r h
    → fields ≡ take r.headers headers → map (header_bytes window) fields ≡ map name_and_value h.fields
fields_are window headers fields r h at same = ap (map (header_bytes window)) same ∙ at.fields

pub fields_within : (window : Text) (headers fields : List HeaderSpan) (r : RequestSpans) → IsRequestWithin window headers r → r.len ≡ length window
    → fields ≡ take r.headers headers → All (IsHeaderWithin (length window)) fields
fields_within window headers fields r within whole same =
    subst (λ hs. All (IsHeaderWithin (length window)) hs) (sym same)
    (subst (λ n. All (IsHeaderWithin n) (take r.headers headers)) whole within.section.headers_fit)

pub unknown_method : (window : Text) (headers : List HeaderSpan) (r : RequestSpans) (h : RequestHead) → IsRequestAt window headers r h
    → entry (span_bytes window r.method) methods ≡ None → body_length h ≡ None
unknown_method window headers r h at none = refused_by_method h (ap (λ m. entry m methods) (sym at.method) ∙ none)

pub body_by_fields : (window : Text) (headers fields : List HeaderSpan) (r : RequestSpans) (h : RequestHead) (m : Method) (must_tell : Bool)
    → IsRequestAt window headers r h → fields ≡ take r.headers headers → method_text m ≡ span_bytes window r.method
    → entry (method_text m) methods ≡ Some must_tell → body_length_at window fields must_tell ≡ body_length h
body_by_fields window headers fields r h m must_tell at same named known =
    body_is window fields h must_tell (fields_are window headers fields r h at same)
    (ap (λ n. entry n methods) (sym (named ∙ at.method)) ∙ known)

-- what is kept beside the body's length
pub record IsKeptOf (window : Text) (fields : List HeaderSpan) (r : RequestSpans) (x : Heading) : Type 0 where
  pub head_len : x.head_len ≡ r.len
  pub target : x.target ≡ r.path
  pub method : method_text x.method ≡ span_bytes window r.method
  pub key : option_map (span_bytes window) x.key ≡ first_of_values (values_at (codes "x-tenant-key") window fields)
  pub key_within : IfSome x.key (IsWithin (length window))
  pub is_last : x.is_last ≡ ((r.version == 0) || list_any asks_to_close (values_at (codes "connection") window fields))

within_len : (o : Option Span) (m n : ℕ) → m ≡ n → IfSome o (IsWithin m) → IfSome o (IsWithin n)
within_len o m n same within = subst (λ k. IfSome o (IsWithin k)) same within

pub heading_is : (window : Text) (headers fields : List HeaderSpan) (r : RequestSpans) (h : RequestHead) (x : Heading)
    → IsRequestAt window headers r h → IsRequestWithin window headers r → r.len ≡ length window → fields ≡ take r.headers headers
    → IsKeptOf window fields r x → body_length h ≡ Some x.body_len → IsHeading h x
heading_is window headers fields r h x at within whole same kept told =
    let printed : window ≡ print_request h = window_is window headers r h at whole in
    let values_of : (name : Text) → values_at name window fields ≡ values name h =
    λ name. values_are name window fields h.fields (fields_are window headers fields r h at same) in
    record {
      head_len = kept.head_len ∙ at.len;
      body_len = told;
      bound = body_bounded h x.body_len told;
      is_last = kept.is_last ∙ ap₂ (λ (v : ℕ) (vs : List Text). (v == 0) || list_any asks_to_close vs) at.version (values_of (codes "connection"));
      method = kept.method ∙ at.method;
      target = ap₂ (λ (w : Text) (s : Span). span_bytes w s) (sym printed) kept.target ∙ at.path;
      target_within = subst (λ (s : Span). IsWithin x.head_len s) (sym kept.target) (subst (λ n. IsWithin n r.path) (sym kept.head_len) within.path);
      key = ap (λ (w : Text). option_map (span_bytes w) x.key) (sym printed) ∙ kept.key ∙ ap first_of_values (values_of (codes "x-tenant-key"));
      key_within = within_len x.key (length window) x.head_len (sym whole ∙ sym kept.head_len) kept.key_within;
    }
