-- Bytes that are answered by the closing fault.
use Rattle.std.proofs.Common.{refl, sym, ap, ◌∙◌, inl, inr, arith}
use Rattle.std.specs.Prelude.{◌≡◌, ℕ, [], ◌∷◌, ◌++◌, codes}
use Rattle.std.specs.Str.{is_utf8, chars}
use lib.Utf8.{encode}
use Rattle.std.proofs.lemmas.Str.{IsUtf8-from_is_utf8}
use Rattle.std.proofs.lemmas.List.Sums.{AllPass-from_list_all}
use Rattle.httparse.specs.Grammar.{is_token_byte, is_uri_byte, print_blank, HasNoRequest}
use Rattle.httparse.proofs.GrammarLemmas.{request_pieces, ReadsRequest-append}
use Rattle.httparse.proofs.PieceLemmas.{Method_deterministic, Target_deterministic}
use Rattle.httparse.proofs.OnLiterals.{httparse_on_literals}
use Rattle.definitions.specs.Values.{Text}
use Rattle.http_definitions.specs.Streams.{IsHopeless}
use Rattle.http_definitions.specs.ReplyTexts.{closing_text}
use Rattle.http_definitions.specs.Connections.{Takes, closed}
use Rattle.http_laws.proofs.LineEnds.{no_blank}
use Rattle.http_laws.proofs.Steps.{takes_hopeless}
use Rattle.http_rows.proofs.Written.{head, field}
use Rattle.http_rows.proofs.Taken.{by_key, empty, refused_by_fields}

-- ---- heads that their fields refuse
unknown_method : IsHopeless (codes "TRACE / HTTP/1.1\r\n\r\n")
unfolding httparse_on_literals is_utf8 chars encode
unknown_method = refused_by_fields (codes "TRACE / HTTP/1.1\r\n\r\n") (head (codes "TRACE") (codes "/") 1 []) refl refl

two_lengths : IsHopeless (codes "POST / HTTP/1.1\r\ncontent-length: 2\r\ncontent-length: 2\r\n\r\n")
unfolding httparse_on_literals is_utf8 chars encode
two_lengths =
    refused_by_fields (codes "POST / HTTP/1.1\r\ncontent-length: 2\r\ncontent-length: 2\r\n\r\n")
    (head (codes "POST") (codes "/") 1 (field (codes "content-length") (codes "2") ∷ field (codes "content-length") (codes "2") ∷ [])) refl refl

no_length : IsHopeless (codes "POST / HTTP/1.1\r\n\r\n")
unfolding httparse_on_literals is_utf8 chars encode
no_length = refused_by_fields (codes "POST / HTTP/1.1\r\n\r\n") (head (codes "POST") (codes "/") 1 []) refl refl

too_long : IsHopeless (codes "POST / HTTP/1.1\r\ncontent-length: 1048577\r\n\r\n")
unfolding httparse_on_literals is_utf8 chars encode
too_long =
    refused_by_fields (codes "POST / HTTP/1.1\r\ncontent-length: 1048577\r\n\r\n")
    (head (codes "POST") (codes "/") 1 (field (codes "content-length") (codes "1048577") ∷ [])) refl refl

in_chunks : IsHopeless (codes "GET / HTTP/1.1\r\ntransfer-encoding: chunked\r\n\r\n")
unfolding httparse_on_literals is_utf8 chars encode
in_chunks =
    refused_by_fields (codes "GET / HTTP/1.1\r\ntransfer-encoding: chunked\r\n\r\n")
    (head (codes "GET") (codes "/") 1 (field (codes "transfer-encoding") (codes "chunked") ∷ [])) refl refl

-- the closing fault alone is answered
closes : Takes by_key (codes "TRACE / HTTP/1.1\r\n\r\n") empty closing_text closed empty
closes = takes_hopeless by_key (codes "TRACE / HTTP/1.1\r\n\r\n") (codes "TRACE / HTTP/1.1\r\n\r\n") empty refl unknown_method

-- ---- a version that no head has
other_version : Text
other_version = codes "GET / HTTP/2.0\r\n\r\n"

no_such_head : (more : Text) → HasNoRequest (other_version ++ more)
unfolding other_version is_token_byte is_utf8 chars encode
no_such_head more h rest reads =
    let pieces = request_pieces (other_version ++ more) h rest reads in
    let start = pieces.1 in
    let none : h.blank ≡ [] = no_blank (other_version ++ more) h rest reads in
    let front : other_version ++ more ≡ start.0 = start.1.0 ∙ ap (λ ends. print_blank ends ++ start.0) none in
    let method = Method_deterministic.unique h.method (codes "GET") start.0 start.2.0 (codes "/ HTTP/2.0\r\n\r\n" ++ more) start.2.1
    (omega arith, AllPass-from_list_all is_token_byte (codes "GET") refl, sym front) in
    let target = Target_deterministic.unique h.target (codes "/") start.2.0 start.2.2.0 (codes "HTTP/2.0\r\n\r\n" ++ more) start.2.2.1
    ((omega arith, AllPass-from_list_all is_uri_byte (codes "/") refl, method.1), IsUtf8-from_is_utf8 (codes "/") refl) in
    let version = sym target.1 ∙ start.2.2.2.1.1 in
    let digit : ◌≡◌ {A = ℕ} 50 49 = cc version in
    omega (arith, digit)

never : IsHopeless other_version
never = inr (λ h more small. no_such_head [] h (more ++ []) (ReadsRequest-append other_version h more [] small.0), inl no_such_head)

closes_at_once : Takes by_key other_version empty closing_text closed empty
unfolding other_version
closes_at_once = takes_hopeless by_key other_version other_version empty refl never
