-- Pointers of which the text is written.
use Rattle.std.specs.Prelude.{◌≡◌, ◌-◌, ◌||◌, ℕ, length, nat_eq, nat_le, true}
use Rattle.basic_output.specs.declared.written_pointer.WrittenPointer.{WrittenPointer}

abbrev pub IsWritten : WrittenPointer → Type 0
IsWritten p = length p.texts.value.pointer.starts.items ≡ length p.steps.items

-- and the last steps, so many, as a fragment, unless they are written in the same way there
pub record IsWrittenOnward (p : WrittenPointer) (onward : ℕ) : Type 0 where
  pub whole : IsWritten p
  pub behind : nat_le p.texts.value.pointer.plain_from (length p.steps.items - onward) || nat_eq (length p.texts.value.fragment.starts.items) (length p.steps.items) ≡ true
