-- Which requests given heads and bodies ask for.
use Rattle.std.proofs.Common.{refl}
use Rattle.std.specs.Prelude.{◌≡◌, [], ◌∷◌, Option, Some, None, codes, map}
use Rattle.std.specs.Str.{is_utf8, chars}
use lib.Utf8.{encode}
use Rattle.httparse.proofs.OnLiterals.{httparse_on_literals}
use Rattle.percent_encoding.proofs.OnLiterals.{percent_encoding_on_literals}
use Rattle.definitions.specs.Values.{Text}
use Rattle.definitions.specs.Registries.{Request, put, validate, bundled_from, batch}
use Rattle.http_definitions.specs.Heads.{key_of}
use Rattle.http_definitions.specs.Routes.{request_of}
use Rattle.http_definitions.specs.Streams.{Message}
use Rattle.http_rows.proofs.Written.{head, put_request, validate_request}

keys_and_requests : map {B = Text × Option Request} (λ (m : Message). (key_of m.head, request_of m.head m.body)) (put_request ∷ validate_request ∷ [])
    ≡ (codes "k1", Some (put (codes "https://ex.org/s") (codes "{}")))
    ∷ (codes "k1", Some (validate (codes "https://ex.org/s") (codes "null"))) ∷ []
unfolding httparse_on_literals percent_encoding_on_literals is_utf8 chars encode
keys_and_requests = refl

abbrev told : Text → Text → Option Request
told method target = request_of (head method target 1 []) []

targets : told (codes "GET") (codes "/bundle") ∷ told (codes "GET") (codes "/bundle?uri=") ∷ told (codes "GET") (codes "/bundle?uri=a%20b+%zz%")
    ∷ told (codes "GET") (codes "/bundle?uri=%ff") ∷ told (codes "PUT") (codes "/bundle?uri=a") ∷ []
    ≡ None ∷ Some (bundled_from []) ∷ Some (bundled_from (codes "a b+%zz%")) ∷ None ∷ None ∷ []
unfolding percent_encoding_on_literals is_utf8 chars encode
targets = refl

batches : request_of (head (codes "POST") (codes "/batch") 1 []) (codes "x") ∷ request_of (head (codes "POST") (codes "/batch?uri=x") 1 []) [] ∷ request_of (head (codes "PUT") (codes "/batch") 1 []) [] ∷ []
    ≡ Some (batch (codes "x")) ∷ None ∷ None ∷ []
unfolding percent_encoding_on_literals is_utf8 chars encode
batches = refl
