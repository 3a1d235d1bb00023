-- The names that a keyword annotates with.
use Rattle.std.specs.Prelude.{List}
use Rattle.definitions.specs.Values.{Text}
use Rattle.definitions.specs.Keywords.{Meaning, pattern_properties}
use Rattle.definitions.specs.Evaluated.{once}

-- of those that it evaluated: all, but each once where several patterns match it
abbrev pub annotation_names : Meaning → List Text → List Text
annotation_names pattern_properties ns = once ns
annotation_names _ ns = ns
