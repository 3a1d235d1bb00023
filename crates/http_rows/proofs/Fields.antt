-- What the fields of given heads say.
use Rattle.std.proofs.Common.{refl}
use Rattle.std.specs.Prelude.{◌≡◌, ℕ, List, [], ◌∷◌, true, false, Option, Some, None, codes, map}
use Rattle.std.specs.Str.{is_utf8, chars}
use lib.Utf8.{encode}
use Rattle.httparse.proofs.OnLiterals.{httparse_on_literals}
use Rattle.definitions.specs.Values.{Text}
use Rattle.http_definitions.specs.Heads.{body_length, is_last, key_of}
use Rattle.http_rows.proofs.Written.{field, head}

-- ---- lengths
abbrev length_by : Text → List (Text × Text) → Option ℕ
length_by method fields = body_length (head method (codes "/") 1 (map (λ f. field f.0 f.1) fields))

refused_heads : length_by (codes "TRACE") [] ∷ length_by (codes "put") ((codes "content-length", codes "2") ∷ []) ∷ length_by (codes "POST") []
    ∷ length_by (codes "POST") ((codes "content-length", codes "2") ∷ (codes "Content-Length", codes "2") ∷ [])
    ∷ length_by (codes "POST") ((codes "content-length", codes "1048577") ∷ [])
    ∷ length_by (codes "POST") ((codes "content-length", codes "+2") ∷ [])
    ∷ length_by (codes "POST") ((codes "content-length", codes "00000002") ∷ [])
    ∷ length_by (codes "GET") ((codes "content-length", []) ∷ [])
    ∷ length_by (codes "GET") ((codes "Transfer-Encoding", codes "chunked") ∷ []) ∷ [] ≡ None ∷ None ∷ None ∷ None ∷ None ∷ None ∷ None ∷ None ∷ None ∷ []
unfolding httparse_on_literals
refused_heads = refl

lengths : length_by (codes "GET") [] ∷ length_by (codes "DELETE") ((codes "content-length", codes "7") ∷ [])
    ∷ length_by (codes "POST") ((codes "CONTENT-length", codes "0000002") ∷ [])
    ∷ length_by (codes "PUT") ((codes "content-length", codes "1048576") ∷ []) ∷ [] ≡ Some 0 ∷ Some 7 ∷ Some 2 ∷ Some 1048576 ∷ []
unfolding httparse_on_literals
lengths = refl

keys : map (λ fields. key_of (head (codes "GET") (codes "/") 1 fields))
    ([] ∷ (field (codes "X-Tenant-Key") (codes " k 1\t") ∷ field (codes "x-tenant-key") (codes "k2") ∷ []) ∷ (field (codes "x-tenant-key") (255 ∷ []) ∷ []) ∷ [])
    ≡ [] ∷ codes "k 1" ∷ [] ∷ []
unfolding httparse_on_literals is_utf8 chars encode
keys = refl

-- ---- last requests
last_by_field : map (λ value. is_last (head (codes "GET") (codes "/x") 1 (field (codes "Connection") value ∷ [])))
    (codes "close" ∷ codes "keep-alive, \t Close" ∷ codes "closed" ∷ codes "clo se,,x" ∷ []) ≡ true ∷ true ∷ false ∷ false ∷ []
unfolding httparse_on_literals
last_by_field = refl
