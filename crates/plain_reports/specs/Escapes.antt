-- The escapes of GitHub's workflow commands: of a message `%`, carriage return and line feed, of a property `:` and `,` too.
use Rattle.std.specs.Prelude.{ℕ, ◌==◌, if◌then◌else◌, codes, flat_map}
use Rattle.std.specs.Char.{encode_utf8}
use Rattle.std.specs.Str.{chars}
use Rattle.definitions.specs.Values.{Text}

abbrev pub message_escape : ℕ → Text
message_escape c =
    if c == 37 then codes "%25" else if c == 13 then codes "%0D" else if c == 10 then codes "%0A" else encode_utf8 c

abbrev pub property_escape : ℕ → Text
property_escape c = if c == 58 then codes "%3A" else if c == 44 then codes "%2C" else message_escape c

abbrev pub message_text : Text → Text
message_text t = flat_map message_escape (chars t)

abbrev pub property_text : Text → Text
property_text t = flat_map property_escape (chars t)
