-- Patterns with their numbers.
use Rattle.std.specs.Prelude.{◌≡◌, Some}
use Rattle.definitions.specs.Values.{Text, Value}
use Rattle.json_doc.specs.Docs.{value}
use Rattle.json_doc.specs.NamedMembers.{name_text}
use Rattle.keyword_plans.specs.declared.numbered_pattern.NumberedPattern.{NumberedPattern}
use Rattle.linker.specs.PatternNumbers.{pattern_text}
use Rattle.linker.specs.declared.linked.Linked.{Linked}

-- the pattern, and the schema under it
abbrev pub numbered_view : NumberedPattern → Text × Value
numbered_view n = (name_text n.pattern, value n.schema.now)

-- it has the pattern's number in these documents
abbrev pub IsNumbered : Linked → NumberedPattern → Type 0
IsNumbered l n = pattern_text l n.number ≡ Some (name_text n.pattern)
