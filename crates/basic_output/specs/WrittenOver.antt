-- Texts that are written over bytes.
use Rattle.std.specs.Prelude.{◌≡◌, ◌≤◌, ◌++◌, ℕ, length, take, true}
use Rattle.std.specs.Str.{is_utf8}
use Rattle.definitions.specs.Values.{Text}

-- a text was written over the bytes from the start on, up to the end, and what stood before it stays
pub record IsWrittenOver (start end : ℕ) (text old new : Text) : Type 0 where
  pub within : end ≤ length new
  pub written : take end new ≡ take start old ++ text
  pub utf8 : is_utf8 text ≡ true
