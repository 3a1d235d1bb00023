-- Patterns that are held, and whose they are.
use Rattle.std.specs.Prelude.{◌≡◌, ℕ, Some, IfSome}
use Rattle.std.specs.BTreeMap.{BTreeMap, get}
use Rattle.std.specs.Ordering.{nat_cmp, ordering_then}
use Rattle.std.specs.declared.cmp.Ordering.{Ordering}
use Rattle.definitions.specs.Values.{Text}
use Rattle.patterns.specs.HeldPatterns.{held_text}
use Rattle.patterns.specs.declared.held.HeldPattern.{HeldPattern}
use Rattle.linker.specs.PatternNumbers.{pattern_text}
use Rattle.linker.specs.declared.linked.Linked.{Linked}
use Rattle.linker.specs.declared.pattern_numbers.PatternNumber.{PatternNumber}

-- what is held is the pattern of this number in these documents
abbrev pub IsHeld : Linked → PatternNumber → HeldPattern → Type 0
IsHeld l number h = (text : Text) → pattern_text l number ≡ Some text → held_text h ≡ text

-- the order of the parts of numbers
abbrev pub parts_cmp : ℕ × ℕ → ℕ × ℕ → Ordering
parts_cmp m n = ordering_then (nat_cmp m.0 n.0) (nat_cmp m.1 n.1)

-- the number of these parts
abbrev pub number_of : ℕ × ℕ → PatternNumber
number_of parts = record { document = parts.0; pattern = parts.1 }

-- what is held under each number is its pattern
abbrev pub AreHeld : Linked → BTreeMap (ℕ × ℕ) HeldPattern → Type 0
AreHeld l held = (parts : ℕ × ℕ) → IfSome (get parts_cmp held parts) (IsHeld l (number_of parts))
