-- Numbers by a URI and a name.
use Rattle.std.specs.Prelude.{ℕ, Option, String, option_and_then}
use Rattle.std.specs.BTreeMap.{BTreeMap, get_by_text}
use Rattle.std.specs.Global.{Global}
use Rattle.definitions.specs.Values.{Text}

-- what the inner map has at the name
abbrev pub name_number : Text → BTreeMap (String Global) ℕ → Option ℕ
name_number name names = get_by_text names name

abbrev pub pair_number : BTreeMap (String Global) (BTreeMap (String Global) ℕ) → Text → Text → Option ℕ
pair_number numbers uri name = option_and_then (name_number name) (get_by_text numbers uri)
