-- What stands before a body.
use Rattle.std.specs.Prelude.{◌++◌, ℕ, Bool, true, false, codes, decimal}
use Rattle.definitions.specs.Values.{Text}
use Rattle.http_definitions.specs.ReplyTexts.{status_line}

abbrev pub before_length : Text
before_length = codes "content-type: application/json\r\ncontent-length: "

abbrev pub behind_length : Bool → Text
behind_length true = codes "\r\nconnection: close\r\n\r\n"
behind_length false = codes "\r\n\r\n"

-- .. of so many bytes, in a reply with this status
abbrev pub head_text : Bool → ℕ → ℕ → Text
head_text closes status length = status_line status ++ (before_length ++ (decimal length ++ behind_length closes))
