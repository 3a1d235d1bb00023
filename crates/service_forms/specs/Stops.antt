-- Why the program ends without a report: what is printed, where, and with which status.
use Rattle.std.specs.Prelude.{◌≡◌, ◌≢◌, ◌⊎◌, ℕ, ◌++◌, ◌∷◌, [], List, Bool, true, false, not, Option, Some, None, Result, Ok, Err, IfSome, if◌then◌else◌, ⊤, codes, decimal}
use Rattle.std.specs.Io.KnownBytes.{Appends, Keeps}
use Rattle.std.specs.List.{list_any}
use Rattle.definitions.specs.Bytes.{line_feed}
use Rattle.definitions.specs.Values.{Text}
use Rattle.faults.specs.View.{fault_view, printed_text}
use Rattle.faults.specs.declared.Fault.TheVariants.{NoRoom}
use Rattle.clap.specs.Words.{IsAmong, Kinds, kind_of}
use Rattle.clap.specs.declared.error.Error.{Error}
use Rattle.clap.specs.declared.error.kind.ErrorKind.{ErrorKind}
use Rattle.clap.specs.declared.error.kind.ErrorKind.TheVariants.{DisplayHelp, DisplayVersion, OutOfMemory}
use Rattle.connections.specs.declared.outage.Outage.{Outage}
use Rattle.connections.specs.declared.outage.Outage.TheVariants as outage
use Rattle.serving.specs.Transfers.{Transfer}
use Rattle.serving.specs.Writing.{Writes, WritesSome}
use Rattle.service_forms.specs.StoreStops.{store_text}
use Rattle.service_forms.specs.declared.store_stop.StoreStop.TheVariants.{Unsettled}
use Rattle.service_forms.specs.declared.stop.Stop.{Stop}
use Rattle.service_forms.specs.declared.stop.Stop.TheVariants.{Words, NotText, CannotRead, Refused, CannotWrite, CannotListen, CannotAccept, CannotLog, Told, TooManyConnections, Store}

abbrev pub unwritten_text : Text
unwritten_text = codes "cannot write -" ++ line_feed ∷ []

-- what is printed, and none where the text is `clap`'s
abbrev pub text_of : Stop → Option Text
text_of (Words e) = None
text_of NotText = Some (codes "error: the command line is not UTF-8" ++ line_feed ∷ [])
text_of (CannotRead name) = Some (codes "cannot read " ++ name.now ++ line_feed ∷ [])
text_of (Refused f) = Some (codes "refused: " ++ printed_text (fault_view f) ++ line_feed ∷ [])
text_of CannotWrite = Some unwritten_text
text_of (CannotListen address) = Some (codes "cannot listen on " ++ address.now ++ line_feed ∷ [])
text_of CannotAccept = Some (codes "cannot accept" ++ line_feed ∷ [])
text_of (CannotLog path) = Some (codes "cannot write " ++ path.now ++ line_feed ∷ [])
text_of Told = Some []
text_of (TooManyConnections most) =
    Some (codes "refused: --connections is above " ++ decimal most ++ codes ", which the limit of open files allows" ++ line_feed ∷ [])
text_of (Store s) = Some (store_text s ++ line_feed ∷ [])

-- the words ask for help or for the version
abbrev pub is_request : ErrorKind → Bool
is_request DisplayHelp = true
is_request DisplayVersion = true
is_request _ = false

-- the text goes to standard error
abbrev pub is_error : Stop → Bool
is_error (Words e) = not (is_request (kind_of e))
is_error _ = true

abbrev pub status_of : Stop → ℕ
status_of stop = if is_error stop then 2 else 0

-- want of memory while the words are read is a refusal like any other
abbrev pub stop_by : ErrorKind → Error → Stop
stop_by OutOfMemory e = Refused NoRoom
stop_by _ e = Words e

abbrev pub stop_of : Error → Stop
stop_of e = stop_by (kind_of e) e

-- the log cannot be opened, or no connections can be had at the address, or not so many
abbrev pub IsUnopened : Text → Stop → Type 0
IsUnopened address (CannotLog path) = ⊤
IsUnopened address (CannotListen a) = address ≡ a.now
IsUnopened address (TooManyConnections most) = ⊤
IsUnopened address _ = ⊥

-- why connections are served no more, over the store in the file at this path, if there is one
abbrev pub IsStopOf : Option Text → Outage → Stop → Type 0
IsStopOf path why CannotAccept = (why ≡ outage.Broken) ⊎ (path ≡ None)
IsStopOf path why (Store (Unsettled p w)) = (why ≡ outage.Unsettled w) × (path ≡ Some p.now)
IsStopOf path why _ = ⊥

-- what has this name cannot be read, or memory ran out
abbrev pub IsUnread : Text → Stop → Type 0
IsUnread name (CannotRead n) = n.now ≡ name
IsUnread name (Refused f) = f ≡ NoRoom
IsUnread name _ = ⊥

-- what cannot be read has one of these names
abbrev pub IsNamed : Text → List Text → Type 0
IsNamed name [] = ⊥
IsNamed name (n ∷ ns) = (name ≡ n) ⊎ IsNamed name ns

-- something that has one of these names cannot be read, or memory ran out
abbrev pub IsUnreadAmong : List Text → Stop → Type 0
IsUnreadAmong names (CannotRead n) = IsNamed n.now names
IsUnreadAmong names (Refused f) = f ≡ NoRoom
IsUnreadAmong names _ = ⊥

-- a stream to which the text goes, or not
abbrev pub Tells : Bool → Option Text → Option Text → Option Text → Type 0
Tells true text old new = IfSome text (Appends old new)
Tells false text old new = Keeps old new

-- all of the text is written, or a first part of it, up to a broken write
abbrev pub Attempts : List Transfer → Text → List Transfer → Type 0
Attempts before text after = Writes before text after ⊎ WritesSome before text after

-- what is told on standard error, and the status, where a text could not be written to the stream that it goes to
abbrev pub EndsUnwritten : Bool → List Transfer → ℕ → List Transfer → Type 0
EndsUnwritten true before status after = (status ≡ 2) × (after ≡ before)
EndsUnwritten false before status after = (status ≡ 2) × Attempts before unwritten_text after

-- .. and after help or the version, whether it could be printed or not
abbrev pub EndsRequest : List Transfer → ℕ → List Transfer → Type 0
EndsRequest before status after = ((status ≡ 0) × (after ≡ before)) ⊎ EndsUnwritten false before status after

-- ---- words that are no call
-- the request was found, unless memory ran out
abbrev pub StopsBy : ErrorKind → Result ℕ Stop → Type 0
StopsBy kind (Err (Words e)) = kind_of e ≡ kind
StopsBy kind (Err (Refused f)) = f ≡ NoRoom
StopsBy kind _ = ⊥

-- something wrong with the words is one of these, and there is a status only where nothing is
abbrev pub IsFoundIn : Kinds → Result ℕ Stop → Type 0
IsFoundIn kinds (Ok status) = kinds ≡ []
IsFoundIn kinds (Err (Words e)) = IsAmong (kind_of e) kinds
IsFoundIn kinds (Err _) = ⊤

-- something is wrong with the words, and they ask for neither help nor the version
abbrev pub AreMistakes : Kinds → Type 0
AreMistakes kinds = (kinds ≢ []) × (list_any is_request kinds ≡ false)
