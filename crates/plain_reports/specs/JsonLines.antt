-- One line of JSON for an instance: its path, its line where it has one, and then the members of the output.
use Rattle.std.specs.Prelude.{ℕ, [], ◌++◌, Option, Some, None, codes, decimal, drop}
use Rattle.definitions.specs.Texts.{text}
use Rattle.definitions.specs.Values.{Text, string}

abbrev pub line_member : Option ℕ → Text
line_member None = []
line_member (Some n) = codes ",\"line\":" ++ decimal n

abbrev pub line_start : Text → Option ℕ → Text
line_start path line = codes "{\"instance\":" ++ text (string path) ++ line_member line

-- the output's text begins with a brace
abbrev pub json_line_text : Text → Option ℕ → Text → Text
json_line_text path line output = line_start path line ++ codes "," ++ drop 1 output

-- of an instance that is refused, with the reason
abbrev pub json_refusal_text : Text → Option ℕ → Text → Text
json_refusal_text path line why = line_start path line ++ codes ",\"refused\":" ++ text (string why) ++ codes "}"
