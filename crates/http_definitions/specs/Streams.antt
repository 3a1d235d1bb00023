-- The requests that a connection's bytes spell, and what stands behind them.
use Rattle.std.specs.Prelude.{◌≡◌, ◌⊎◌, ◌≤◌, ◌<◌, ℕ, List, [], ◌∷◌, ◌++◌, MatchBool, Bool, false, ◌||◌, if◌then◌else◌, Some, None, length, ◌==◌}
use Rattle.httparse.specs.Ascii.{carriage_return, line_feed}
use Rattle.httparse.specs.Grammar.{RequestHead, ReadsRequest, HasNoRequest, NeverHasRequest}
use Rattle.definitions.specs.Values.{Text}
use Rattle.http_definitions.specs.Heads.{IsSmall, most_head_bytes, most_line_feeds, line_feeds, body_length, is_last}

-- a whole request: its head and its body
pub record Message : Type 0 where
  pub head : RequestHead
  pub body : Text

abbrev pub is_line_end : ℕ → Bool
is_line_end b = (b == carriage_return) || (b == line_feed)

-- the bytes without the line ends before a head (RFC 9112, section 2.2)
abbrev pub without_line_ends : Text → Text
without_line_ends [] = []
without_line_ends (b ∷ bytes) = if is_line_end b then without_line_ends bytes else b ∷ bytes

-- bytes begins with this head, within the limits, and more follows
abbrev pub BeginsWithHead : Text → RequestHead → Text → Type 0
BeginsWithHead bytes h more = ReadsRequest bytes h more × IsSmall h

-- bytes begins with this request, which its fields don't refuse, and more follows
abbrev pub BeginsWith : Text → Message → Text → Type 0
BeginsWith bytes m more =
    BeginsWithHead bytes m.head (m.body ++ more) × (body_length m.head ≡ Some (length m.body))

-- From the start of bytes these requests stand one after the other, and then the rest. Behind a
-- last one no other is sought.
abbrev pub Spells : Text → List Message → Text → Type 0
Spells bytes [] rest = rest ≡ without_line_ends bytes
Spells bytes (m ∷ ms) rest =
    (more : Text) × BeginsWith (without_line_ends bytes) m more
    × MatchBool (is_last m.head) ((ms ≡ []) × (rest ≡ without_line_ends more)) (Spells more ms rest)

-- a last one is among them
abbrev pub close : List Message → Bool
close [] = false
close (m ∷ ms) = is_last m.head || close ms

-- ---- what stands where no other request is spelled
abbrev pub HasNoSmallHead : Text → Type 0
HasNoSmallHead rest = (h : RequestHead) (more : Text) → ¬ (BeginsWithHead rest h more)

abbrev pub IsFull : Text → Type 0
IsFull rest = (most_head_bytes ≤ length rest) ⊎ (most_line_feeds ≤ line_feeds rest)

-- nothing that follows can make the rest begin with a request
abbrev pub IsHopeless : Text → Type 0
IsHopeless rest =
    ((h : RequestHead) × (more : Text) × BeginsWithHead rest h more × (body_length h ≡ None))
    ⊎ (HasNoSmallHead rest × (NeverHasRequest rest ⊎ IsFull rest))

-- the rest begins with no whole request, and there is room for one yet
abbrev pub IsWaiting : Text → Type 0
IsWaiting rest =
    ((h : RequestHead) × (more : Text) × (n : ℕ)
    × BeginsWithHead rest h more × (body_length h ≡ Some n) × (length more < n))
    ⊎ (HasNoRequest rest × (length rest < most_head_bytes) × (line_feeds rest < most_line_feeds))
