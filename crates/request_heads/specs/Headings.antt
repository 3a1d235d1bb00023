-- What is kept of a head.
use Rattle.std.specs.Prelude.{◌≡◌, ◌≤◌, Option, Some, None, option_map, IfSome, length, codes}
use Rattle.httparse.specs.Grammar.{RequestHead, print_request}
use Rattle.httparse.specs.Spans.{IsWithin, span_bytes}
use Rattle.http_definitions.specs.Heads.{body_length, is_last, values}
use Rattle.definitions.specs.Limits.{limits}
use Rattle.request_heads.specs.Fields.{first_of_values}
use Rattle.request_heads.specs.Methods.{method_text}
use Rattle.request_heads.specs.declared.headings.Heading.{Heading}

pub record IsHeading (h : RequestHead) (x : Heading) : Type 0 where
  pub head_len : x.head_len ≡ length (print_request h)
  pub body_len : body_length h ≡ Some x.body_len
  pub bound : x.body_len ≤ limits.body_bytes
  pub is_last : x.is_last ≡ is_last h
  pub method : method_text x.method ≡ h.method
  pub target : span_bytes (print_request h) x.target ≡ h.target
  pub target_within : IsWithin x.head_len x.target
  pub key : option_map (span_bytes (print_request h)) x.key ≡ first_of_values (values (codes "x-tenant-key") h)
  pub key_within : IfSome x.key (IsWithin x.head_len)

-- none exactly where the fields refuse the head
abbrev pub IsJudged : RequestHead → Option Heading → Type 0
IsJudged h None = body_length h ≡ None
IsJudged h (Some x) = IsHeading h x
