-- The digits of a percent escape (RFC 3986, section 2.1).
use Rattle.std.specs.Prelude.{[], ◌∷◌, ◌&&◌, if◌then◌else◌, Option, Some, None, is_some}
use Rattle.definitions.specs.Values.{Text}
use Rattle.definitions.specs.Fragments.{hex_value}

-- what follows two hexadecimal digits, where the text begins with them
abbrev pub after_digits : Text → Option Text
after_digits [] = None
after_digits (h ∷ []) = None
after_digits (h ∷ l ∷ cs) = if is_some (hex_value h) && is_some (hex_value l) then Some cs else None
