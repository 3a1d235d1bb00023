-- What a look at the front of a connection's bytes finds.
use Rattle.std.specs.Prelude.{ℕ}
use Rattle.httparse.specs.Grammar.{RequestHead}
use Rattle.httparse.specs.Spans.{RequestExceeds, RequestOverflows}
use Rattle.definitions.specs.Values.{Text}
use Rattle.http_definitions.specs.Streams.{BeginsWithHead, IsHopeless}
use Rattle.request_heads.specs.Headings.{IsHeading}
use Rattle.request_heads.specs.declared.headings.Heading.{Heading}
use Rattle.request_heads.specs.declared.fronts.Front.{Front}
use Rattle.request_heads.specs.declared.fronts.Front.TheVariants.{Hopeless, Whole}

-- the bytes begin with the head of which this is kept
abbrev pub HasHeading : Text → Heading → Type 0
HasHeading bytes x = (h : RequestHead) × (more : Text) × BeginsWithHead bytes h more × IsHeading h x

-- what was found is so
abbrev pub IsFrontOf : Text → Front → Type 0
IsFrontOf bytes Hopeless = IsHopeless bytes
IsFrontOf bytes (Whole x) = HasHeading bytes x

-- a head of these bytes has more fields than that, and they have shown it
pub record Overfills (fields : ℕ) (window : Text) : Type 0 where
  pub no_room : RequestOverflows fields window
  pub too_many : RequestExceeds fields window
