-- What the laws say of the requests that bytes spell.
use Rattle.std.specs.Prelude.{◌≡◌, ◌<◌, List, [], ◌++◌, false, length}
use Rattle.httparse.specs.Grammar.{RequestHead, ReadsRequest, print_request, HasNoRequest}
use Rattle.definitions.specs.Values.{Text}
use Rattle.http_definitions.specs.Streams.{Message, without_line_ends, BeginsWith, Spells, close, IsHopeless, IsWaiting}

abbrev pub HasNoRequestWhole : Text → Type 0
HasNoRequestWhole rest = (m : Message) (more : Text) → ¬ (BeginsWith rest m more)

-- all requests of the bytes: none stands in the rest, unless a last one came
abbrev pub SpellsAll : Text → List Message → Text → Type 0
SpellsAll bytes ms rest = Spells bytes ms rest × (close ms ≡ false → HasNoRequestWhole rest)

abbrev pub CutStreamsSpellTheSame : Type 0
CutStreamsSpellTheSame =
    (a p : Text) (ms ns : List Message) (r s : Text)
    → Spells a ms r → close ms ≡ false → Spells (r ++ p) ns s → Spells (a ++ p) (ms ++ ns) s

abbrev pub StreamsAreSpelledOnce : Type 0
StreamsAreSpelledOnce =
    (bytes : Text) (ms ns : List Message) (r s : Text)
    → SpellsAll bytes ms r → SpellsAll bytes ns s → (ms ≡ ns) × (r ≡ s)

abbrev pub HeadsBeginWithNoLineEnd : Type 0
HeadsBeginWithNoLineEnd =
    (bytes : Text) (h : RequestHead) (more : Text)
    → ReadsRequest (without_line_ends bytes) h more → h.blank ≡ []

-- where a head is not whole yet, none stands
abbrev pub PartsOfHeadsAreNoHeads : Type 0
PartsOfHeadsAreNoHeads =
    (part more : Text) (h : RequestHead) (rest : Text)
    → ReadsRequest (part ++ more) h rest → length part < length (print_request h) → HasNoRequest part

abbrev pub WaitingBytesBeginWithNoRequest : Type 0
WaitingBytesBeginWithNoRequest = (rest : Text) → IsWaiting rest → HasNoRequestWhole rest

abbrev pub HopelessBytesBeginWithNoRequest : Type 0
HopelessBytesBeginWithNoRequest = (rest : Text) → IsHopeless rest → HasNoRequestWhole rest

abbrev pub HopelessBytesStayHopeless : Type 0
HopelessBytesStayHopeless = (rest more : Text) → IsHopeless rest → IsHopeless (rest ++ more)
