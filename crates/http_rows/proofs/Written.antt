-- Requests as they are mostly written, and the example of two of them.
use Rattle.std.specs.Prelude.{ℕ, List, [], ◌∷◌, codes}
use Rattle.httparse.specs.Ascii.{space}
use Rattle.httparse.specs.Grammar.{crlf, Field, RequestHead}
use Rattle.definitions.specs.Values.{Text}
use Rattle.http_definitions.specs.Streams.{Message}

-- a space stands before the value, and each line ends in CR LF
abbrev pub field : Text → Text → Field
field name value = record { name = name; raw = space ∷ value; end = crlf }

abbrev pub head : Text → Text → ℕ → List Field → RequestHead
head method target minor fields =
    record { blank = []; method = method; target = target; minor = minor; line_end = crlf; fields = fields; last = crlf }

abbrev pub message : Text → Text → ℕ → List Field → Text → Message
message method target minor fields body = record { head = head method target minor fields; body = body }

-- ---- a put and a validation by the same tenant
abbrev pub put_request : Message
put_request =
    message (codes "PUT") (codes "/schemas?uri=https://ex.org/s") 1
    (field (codes "x-tenant-key") (codes "k1") ∷ field (codes "content-length") (codes "2") ∷ []) (codes "{}")

abbrev pub validate_request : Message
validate_request =
    message (codes "POST") (codes "/validate?uri=https://ex.org/s") 1
    (field (codes "x-tenant-key") (codes "k1") ∷ field (codes "content-length") (codes "4") ∷ []) (codes "null")

abbrev pub put_text : Text
put_text =
    codes "PUT /schemas?uri=https://ex.org/s HTTP/1.1\r\nx-tenant-key: k1\r\ncontent-length: 2\r\n\r\n{}"

abbrev pub validate_text : Text
validate_text =
    codes "POST /validate?uri=https://ex.org/s HTTP/1.1\r\nx-tenant-key: k1\r\ncontent-length: 4\r\n\r\nnull"

-- ---- what is answered
abbrev pub stored_text : Text
stored_text =
    codes "HTTP/1.1 201 Created\r\ncontent-type: application/json\r\ncontent-length: 46\r\n\r\n{\"replaced\":false,\"stored\":\"https://ex.org/s\"}"

abbrev pub valid_text : Text
valid_text =
    codes "HTTP/1.1 200 OK\r\ncontent-type: application/json\r\ncontent-length: 31\r\n\r\n{\"annotations\":[],\"valid\":true}"
