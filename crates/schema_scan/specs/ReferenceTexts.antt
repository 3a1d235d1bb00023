-- The texts of references.
use Rattle.std.specs.Prelude.{◌≡◌, ◌⊎◌, Some, codes}
use Rattle.definitions.specs.Schemas.{Schema}
use Rattle.definitions.specs.Values.{Text, text_at}

-- Core, 8.2.3: a reference of the schema has this text
abbrev pub HasReference : Schema → Text → Type 0
HasReference s text = (text_at (codes "$ref") s.value ≡ Some text) ⊎ (text_at (codes "$dynamicRef") s.value ≡ Some text)
