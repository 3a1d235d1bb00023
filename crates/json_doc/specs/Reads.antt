-- What the first tokens of a text spell, by `serde_json`'s reading of the grammar.
use Rattle.std.specs.Prelude.{◌≡◌, ◌<◌, ◌^◌, ℕ, List, length, ℤ, Option, Some, option_and_then}
use Rattle.std.specs.Str.Parse.{AllDigits, digits_value}
use Rattle.json.specs.Token.{Token}
use Rattle.json.specs.Json as grammar
use Rattle.serde_json.specs.Data.{no_members}
use Rattle.serde_json.specs.Find.{as_integer}
use Rattle.serde_json.specs.Read.{of_json, of_items, of_members, converted, number_of, read}
use Rattle.definitions.specs.Values.{Text, Value, Elements, Members}
use Rattle.definitions.specs.Texts.{value_of, elements_of, members_of}

-- the value, and the tokens after it, where arrays and objects nest no deeper than this
abbrev pub value_at : ℕ → List Token → Option (Value × List Token)
value_at depth ts = converted value_of (converted of_json (grammar.value depth ts))

-- the elements up to the bracket that closes the array
abbrev pub elements_at : ℕ → List Token → Option (Elements × List Token)
elements_at depth ts = converted elements_of (converted of_items (grammar.items (grammar.value depth) (length ts) ts))

-- the members up to the brace that closes the object
abbrev pub members_at : ℕ → List Token → Option (Members × List Token)
members_at depth ts = converted members_of (converted (λ ms. of_members ms no_members) (grammar.members (grammar.value depth) (length ts) ts))

-- the value of the whole text
abbrev pub IsTextOf : Text → Value → Type 0
IsTextOf text v = option_and_then value_of (read text) ≡ Some v

-- the number that a token spells, if it is whole
abbrev pub whole_at : Text → Option ℤ
whole_at text = option_and_then as_integer (number_of text)

-- the digits of a number of at most 18 of them
pub record IsNumeralOf (ds : Text) (n : ℕ) : Type 0 where
  pub some : 0 < length ds
  pub digits : AllDigits 10 ds
  pub value : digits_value 10 ds ≡ n
  pub small : n < 10 ^ 18
