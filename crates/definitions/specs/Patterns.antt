-- What a pattern means, by the words of `regex`: whether its grammar reads it, and whether a match exists.
use Rattle.std.specs.Prelude.{Bool, false, Option, Some, None, chars, is_some, option_map}
use Rattle.regex.specs.Patterns.{Re, find_str, default_config}
use Rattle.regex_syntax.specs.Grammar.{read}
use Rattle.definitions.specs.Values.{Text}
use Rattle.definitions.specs.Searches.{Search}

-- the expression that the grammar reads in the text, with the default options and no limit on nesting
abbrev pub expression : Text → Option Re
expression pattern = option_map (λ p. p.0.value) (read default_config (chars pattern))

abbrev pub is_read : Text → Bool
is_read pattern = is_some (expression pattern)

abbrev pub finds : Option Re → Text → Bool
finds None text = false
finds (Some re) text = is_some (find_str re text 0)

-- the pattern has a match somewhere in the text
abbrev pub has_match : Text → Text → Bool
has_match pattern text = finds (expression pattern) text

abbrev pub regular_search : Search
regular_search = record { reads = is_read; matches = has_match }
