-- A whole message at the front of a connection's bytes.
use Rattle.std.specs.Prelude.{◌≡◌, Option, option_map}
use Rattle.definitions.specs.Values.{Text}
use Rattle.http_definitions.specs.Routes.{request_of}
use Rattle.http_definitions.specs.Streams.{Message, BeginsWith}
use Rattle.request_heads.specs.Headings.{IsHeading}
use Rattle.request_heads.specs.declared.headings.Heading.{Heading}
use Rattle.requests.specs.Views.{request_view}
use Rattle.requests.specs.declared.Request.{Request}

-- the bytes begin with this message, of whose head this is kept
pub record IsMessage (bytes : Text) (x : Heading) (m : Message) : Type 0 where
  pub more : Text
  pub begins : BeginsWith bytes m more
  pub heading : IsHeading m.head x

abbrev pub HasMessage : Text → Heading → Type 0
HasMessage bytes x = (m : Message) × IsMessage bytes x m

-- what the message at the front asks; none where its target is no route's
abbrev pub IsAskedAt : Text → Heading → Option Request → Type 0
IsAskedAt bytes x q =
    (m : Message) → IsMessage bytes x m → option_map request_view q ≡ request_of m.head m.body
