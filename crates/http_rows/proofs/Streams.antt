-- What given streams spell.
use Rattle.std.proofs.Common.{refl}
use Rattle.std.specs.Prelude.{◌≡◌, [], ◌∷◌, ◌++◌, true, codes}
use Rattle.std.specs.Str.{is_utf8, chars}
use lib.Utf8.{encode}
use Rattle.httparse.specs.Ascii.{line_feed}
use Rattle.httparse.proofs.OnLiterals.{httparse_on_literals}
use Rattle.http_rows.proofs.Computed.{spells}
use Rattle.http_rows.proofs.Written.{message, put_request, validate_request, put_text, validate_text}

pub both_are_spelled : spells (put_text ++ validate_text) (put_request ∷ validate_request ∷ []) [] ≡ true
unfolding httparse_on_literals is_utf8 chars encode
both_are_spelled = refl

-- line ends before a head and behind the last request are dropped
with_line_ends : spells (codes "\r\n\r" ++ (put_text ++ (line_feed ∷ validate_text ++ codes "\r\n"))) (put_request ∷ validate_request ∷ []) [] ≡ true
unfolding httparse_on_literals is_utf8 chars encode
with_line_ends = refl

-- cut within the first body, and within the second head
cut_in_a_body : spells (codes "PUT /schemas?uri=https://ex.org/s HTTP/1.1\r\nx-tenant-key: k1\r\ncontent-length: 2\r\n\r\n{")
    [] (codes "PUT /schemas?uri=https://ex.org/s HTTP/1.1\r\nx-tenant-key: k1\r\ncontent-length: 2\r\n\r\n{") ≡ true
unfolding httparse_on_literals is_utf8 chars encode
cut_in_a_body = refl

cut_in_a_head : spells (put_text ++ codes "POST /vali") (put_request ∷ []) (codes "POST /vali") ≡ true
unfolding httparse_on_literals is_utf8 chars encode
cut_in_a_head = refl

what_follows_a_last_one_counts_for_nothing : spells (codes "GET /bundle HTTP/1.0\r\n\r\nGET") (message (codes "GET") (codes "/bundle") 0 [] [] ∷ []) (codes "GET") ≡ true
unfolding httparse_on_literals is_utf8 chars encode
what_follows_a_last_one_counts_for_nothing = refl
