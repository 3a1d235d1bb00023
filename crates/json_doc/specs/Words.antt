-- Eight bytes read as a number.
use Rattle.std.specs.Prelude.{◌+◌, ◌∷◌, [], ℕ, List}
use Rattle.std.specs.Int.{from_le_bytes, w64}
use Rattle.std.specs.List.{slice_index}

-- those from the n-th on
abbrev pub eight_at : ℕ → List ℕ → List ℕ
eight_at n b =
    slice_index b n ∷ slice_index b (n + 1) ∷ slice_index b (n + 2) ∷ slice_index b (n + 3) ∷ slice_index b (n + 4) ∷ slice_index b (n + 5)
    ∷ slice_index b (n + 6) ∷ slice_index b (n + 7) ∷ []

unfoldable pub word_at : ℕ → List ℕ → ℕ
word_at n b = from_le_bytes w64 (eight_at n b)
