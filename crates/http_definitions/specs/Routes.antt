-- Which request a head and a body ask for: the table of routes. URIs stand behind `?uri=`, percent-encoded (RFC 3986, section 2.1).
use Rattle.std.specs.Prelude.{List, [], ◌∷◌, Option, Some, None, option_map, if◌then◌else◌, ◌==◌, codes}
use Rattle.std.specs.Str.{is_utf8}
use Rattle.percent_encoding.specs.Percent.{percent_decode}
use Rattle.httparse.specs.Grammar.{RequestHead}
use Rattle.definitions.specs.Values.{Text, same_text}
use Rattle.definitions.specs.Registries.{Request, put, delete, validate, bundled_from, batch}

-- a method, what its target begins with, and the request by the rest of the target and the body
pub record Route : Type 0 where
  pub method : Text
  pub path : Text
  pub request : Text → Text → Option Request

-- the text without its escapes; a `%` that begins none is kept
abbrev pub unescaped_text : Text → Option Text
unescaped_text t = if is_utf8 (percent_decode t) then Some (percent_decode t) else None

-- the rest of the target is a URI
abbrev pub by_uri : (Text → Text → Request) → Text → Text → Option Request
by_uri ask rest body = option_map (λ uri. ask uri body) (unescaped_text rest)

-- the target ends here
abbrev pub alone : (Text → Request) → Text → Text → Option Request
alone ask [] body = Some (ask body)
alone ask (c ∷ cs) body = None

abbrev pub routes : List Route
routes =
    record { method = codes "PUT"; path = codes "/schemas?uri="; request = by_uri put }
    ∷ record { method = codes "DELETE"; path = codes "/schemas?uri="; request = by_uri (λ uri body. delete uri) }
    ∷ record { method = codes "POST"; path = codes "/validate?uri="; request = by_uri validate }
    ∷ record { method = codes "POST"; path = codes "/batch"; request = alone batch }
    ∷ record { method = codes "GET"; path = codes "/bundle?uri="; request = by_uri (λ uri body. bundled_from uri) }
    ∷ []

-- what follows this beginning
abbrev pub behind : Text → Text → Option Text
behind [] t = Some t
behind (c ∷ cs) [] = None
behind (c ∷ cs) (d ∷ ds) = if c == d then behind cs ds else None

-- what the target has behind the route's path, where the method is its own
abbrev pub target_rest : Route → Text → Text → Option Text
target_rest r method target = if same_text r.method method then behind r.path target else None

abbrev pub request_or : Option Text → (Text → Option Request) → Option Request → Option Request
request_or None ask other = other
request_or (Some rest) ask other = ask rest

-- by the first route with this method and this beginning
abbrev pub request_by : List Route → Text → Text → Text → Option Request
request_by [] method target body = None
request_by (r ∷ rs) method target body =
    request_or (target_rest r method target) (λ rest. r.request rest body) (request_by rs method target body)

-- none where the target is no route's
abbrev pub request_of : RequestHead → Text → Option Request
request_of h body = request_by routes h.method h.target body
