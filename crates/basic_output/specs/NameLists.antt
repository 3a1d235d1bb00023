-- Texts of lists of names that are kept.
use Rattle.std.specs.Prelude.{◌≡◌, ℕ, Some, string_bytes}
use Rattle.std.specs.List.{slice_get}
use Rattle.definitions.specs.Values.{Text}
use Rattle.basic_output.specs.declared.name_lists.NameListCache.{NameListCache}
use Rattle.basic_output.specs.declared.name_lists.NameList.{NameList}

-- this text is kept at that place
abbrev pub IsKept : NameListCache → ℕ → Text → Type 0
IsKept kept place t = (n : NameList) × (slice_get kept.texts.items place ≡ Some n) × (string_bytes n.text ≡ t)
