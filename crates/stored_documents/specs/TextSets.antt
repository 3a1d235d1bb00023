-- Texts in order, to look up.
use Rattle.std.specs.Prelude.{◌≡◌, ◌<◌, List, length}
use Rattle.std.specs.BTreeSet.{BTreeSet, contains_text}
use Rattle.std.specs.List.{list_any}
use Rattle.std.specs.declared.alloc.Global.{Global}
use Rattle.std.specs.declared.string.String.{String}
use Rattle.definitions.specs.Values.{Text, same_text}

-- the set has these texts
abbrev pub IsSetOf : BTreeSet (String Global) → List Text → Type 0
IsSetOf set texts = (t : Text) → contains_text set t ≡ list_any (same_text t) texts

-- more than a few texts are looked up in the set
abbrev pub IsLookedUp : BTreeSet (String Global) → List Text → Type 0
IsLookedUp set texts = 8 < length texts → IsSetOf set texts
