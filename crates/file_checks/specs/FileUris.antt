-- The `file:` URIs of paths (RFC 8089).
use Rattle.std.specs.Prelude.{◌≡◌, ◌==◌, ◌++◌, ◌∷◌, [], Bool, false, codes, if◌then◌else◌}
use Rattle.definitions.specs.Bytes.{slash}
use Rattle.definitions.specs.Values.{Text}
use Rattle.percent_encoding.specs.Percent.{percent_decode}

abbrev pub is_rooted : Text → Bool
is_rooted [] = false
is_rooted (c ∷ cs) = c == slash

-- a path behind that of a folder, unless it begins at the root
abbrev pub path_in : Text → Text → Text
path_in folder path = if is_rooted path then path else folder ++ slash ∷ path

-- the URI spells the path behind `file://`, with what may not stand in a path of a URI as escapes
pub record SpellsPath (uri path : Text) : Type 0 where
  pub spelled : Text
  pub behind : uri ≡ codes "file://" ++ spelled
  pub read_back : percent_decode spelled ≡ path
