-- How many bytes open connections keep.
use Rattle.std.specs.Prelude.{◌≡◌, ℕ, ◌+◌, length, Option, Some, None}
use Rattle.std.specs.BTreeMap.{BTreeMap}
use Rattle.std.proofs.Props.{props}
use Rattle.std.specs.List.{sum_by}
use Rattle.std.specs.Map.{values_of}
use Rattle.network.specs.declared.kept.Kept.{Kept}

-- bytes that are kept to be sent, and bytes of requests that aren't whole
abbrev pub size_of : Kept → ℕ
size_of kept = length kept.bytes.items + kept.held

-- those of all
abbrev pub total_size : BTreeMap ℕ Kept → ℕ
total_size m = sum_by size_of (values_of m.entries)

-- so many, where they were never more than can be counted
abbrev pub IsCounted : Option ℕ → ℕ → Type 0
IsCounted None total = Unit {0}
IsCounted (Some count) total = count ≡ total

pub IsCounted-prop : (count : Option ℕ) (total : ℕ) → IsProp (IsCounted count total)
IsCounted-prop None total = hlevel props
IsCounted-prop (Some count) total = hlevel props
