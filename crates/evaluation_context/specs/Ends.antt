-- How identities end, as numbers that tell most of them apart.
use Rattle.std.specs.Prelude.{◌-◌, ◌==◌, ◌&&◌, ◌||◌, Bool, List, [], ◌∷◌, true, ℕ, length, map, slice_index_or}
use Rattle.std.specs.Int.{w32, from_le_bytes}
use Rattle.definitions.specs.Values.{Text}
use Rattle.definitions.specs.Schemas.{Identity}
use Rattle.definitions.specs.Applied.{InstanceLocation}
use Rattle.evaluation_context.specs.Runnings.{last_end}
use Rattle.evaluation_context.specs.declared.running.Running.{Running}

-- the byte so many places before the end, or the first one; 0 of none
abbrev pub byte_before_end : ℕ → Text → ℕ
byte_before_end n t = slice_index_or t (length t - n) 0

-- its last four bytes; of a shorter text the first byte stands for those that it lacks
unfoldable pub text_end : Text → ℕ
text_end t = from_le_bytes w32 (byte_before_end 4 t ∷ byte_before_end 3 t ∷ byte_before_end 2 t ∷ byte_before_end 1 t ∷ [])

-- that of the pointer's last token, or of the URI where it has none
unfoldable pub identity_end : Identity → ℕ
identity_end i = last_end (text_end i.0) (map text_end i.1)

-- the number is that end, or 0, which says nothing
unfoldable pub tells_end : ℕ → ℕ → Bool
tells_end n end = n == 0 || n == end

-- the number of each object tells how the identity beside it ends
abbrev pub tell_ends : List Running → List (Identity × InstanceLocation) → Bool
tell_ends (r ∷ rs) (o ∷ os) = tells_end r.end (identity_end o.0) && tell_ends rs os
tell_ends _ _ = true
