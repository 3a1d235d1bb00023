-- The texts that are written.
use Rattle.std.proofs.Common.{◌≡◌, ◌-◌, ◌^◌, ℕ, List, [], ◌++◌, Bool, true, false, String, Global, length, min, string_bytes, sym, ap, ◌∙◌, append_assoc, arith}
use Rattle.std.proofs.lemmas.List.{length-append}
use Rattle.std.specs.Prelude.{codes, decimal}
use Rattle.json.specs.Print.{print}
use Rattle.json.specs.Token.{Token}
use Rattle.serde_json.proofs.Texts.{print-outline}
use Rattle.httparse.specs.Ascii.{crlf_bytes}
use Rattle.definitions.specs.Values.{Text, Value}
use Rattle.definitions.specs.Texts.{data_of, text}
use Rattle.http_definitions.specs.ReplyTexts.{http_text, status_line}
use Rattle.reply_texts.specs.Bodies.{value_tokens}
use Rattle.reply_texts.specs.Heads.{before_length, behind_length, head_text}

-- a value that was written alone
pub text_of : (v : Value) (before after : List Token) → before ≡ [] → after ≡ before ++ value_tokens v → print after ≡ text v
text_of v before after none more = ap print (more ∙ ap (λ ts. ts ++ value_tokens v) none) ∙ print-outline (data_of v)

-- a reply as its parts
http_parts : (closes : Bool) (status : ℕ) (body : Text)
    → status_line status ++ (before_length ++ (decimal (length body) ++ (behind_length closes ++ body))) ≡ http_text closes status body
http_parts true status body =
    ap (λ t. status_line status ++ (before_length ++ t)) (sym (append_assoc (decimal (length body)) crlf_bytes (codes "connection: close\r\n\r\n" ++ body)))
http_parts false status body =
    ap (λ t. status_line status ++ (before_length ++ t)) (sym (append_assoc (decimal (length body)) crlf_bytes (crlf_bytes ++ body)))

regrouped : (a b d e f : Text) → (a ++ (b ++ (d ++ e))) ++ f ≡ a ++ (b ++ (d ++ (e ++ f)))
regrouped a b d e f =
    append_assoc a (b ++ (d ++ e)) f ∙ ap (λ t. a ++ t) (append_assoc b (d ++ e) f ∙ ap (λ t. b ++ t) (append_assoc d e f))

-- what was counted of a body that is written: a text is shorter than the largest number
pub exact : (s : String Global) (before body : Text) (n : ℕ) → string_bytes s ≡ before ++ body → n ≡ min (length body) (2 ^ 64 - 1) → n ≡ length body
exact s before body n is counted =
    omega (arith, counted, ap length is, length-append before body, s.bytes.ok.0, s.bytes.ok.1, s.bytes.small)

-- the head and the body behind it
pub headed : (closes : Bool) (status n : ℕ) (old between new body : Text) → between ≡ old ++ head_text closes status n → new ≡ between ++ body → n ≡ length body
    → new ≡ old ++ http_text closes status body
headed closes status n old between new body head is same =
    is ∙ ap (λ t. t ++ body) (head ∙ ap (λ k. old ++ head_text closes status k) same) ∙ append_assoc old (head_text closes status (length body)) body
    ∙ ap (λ t. old ++ t) (regrouped (status_line status) before_length (decimal (length body)) (behind_length closes) body ∙ http_parts closes status body)
