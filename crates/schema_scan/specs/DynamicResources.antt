-- The URIs of the resources that have a dynamic anchor, by its name.
use Rattle.std.specs.Prelude.{Bool, false, String, option_map, unwrap_or}
use Rattle.std.specs.BTreeMap.{BTreeMap, get_by_text}
use Rattle.std.specs.BTreeSet.{BTreeSet, contains_text}
use Rattle.std.specs.Global.{Global}
use Rattle.definitions.specs.Values.{Text}

abbrev pub has_uri : Text → BTreeSet (String Global) → Bool
has_uri uri uris = contains_text uris uri

-- the URI is one of the name's
abbrev pub has_resource : BTreeMap (String Global) (BTreeSet (String Global)) → Text → Text → Bool
has_resource resources uri name = unwrap_or (option_map (has_uri uri) (get_by_text resources name)) false
