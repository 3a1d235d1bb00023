-- Whether a text is one of several.
use Rattle.std.specs.Prelude.{List, Bool}
use Rattle.std.specs.List.{list_any}
use Rattle.definitions.specs.Values.{Text, same_text}

abbrev pub is_among : List Text → Text → Bool
is_among ts t = list_any (same_text t) ts
