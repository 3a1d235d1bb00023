-- Why a document isn't compiled.
use Rattle.std.specs.Prelude.{◌≡◌, ◌⊎◌, ◌<◌, Some, None, length}
use Rattle.definitions.specs.Faults.{Fault, bad_pattern}
use Rattle.definitions.specs.Scanning.{scan_fault}
use Rattle.definitions.specs.Searches.{patterns}
use Rattle.definitions.specs.Values.{Text, Value}

-- the scan finds the fault; or it finds none, and a pattern isn't built
abbrev pub Refuses : Text → Value → Fault → Type 0
Refuses base v f = (scan_fault base v ≡ Some f) ⊎ ((f ≡ bad_pattern) × (scan_fault base v ≡ None) × (0 < length (patterns v)))
