-- Where a byte stands in a text.
use Rattle.std.specs.Prelude.{◌≡◌, ◌≢◌, ℕ, ◌<◌, length, slice_index}
use Rattle.definitions.specs.Values.{Text}

-- no byte of the text is this one
abbrev pub Lacks : ℕ → Text → Type 0
Lacks c bs = (i : ℕ) → i < length bs → slice_index bs i ≢ c

-- the byte stands here, and nowhere after it
abbrev pub IsLast : ℕ → Text → ℕ → Type 0
IsLast c bs at = (at < length bs) × (slice_index bs at ≡ c) × ((i : ℕ) → at < i → i < length bs → slice_index bs i ≢ c)
