-- The first line of a refusal.
use Rattle.std.specs.Prelude.{◌++◌, ℕ, Option, Some, None, codes, decimal}
use Rattle.definitions.specs.Faults.{Fault}
use Rattle.definitions.specs.Values.{Text}
use Rattle.faults.specs.View.{printed_text}

-- `: ` behind a path, or `:LINE: `
abbrev pub line_text : Option ℕ → Text
line_text None = codes ": "
line_text (Some line) = codes ":" ++ decimal line ++ codes ": "

-- `refused: PATH:LINE: 3 BadJson`, without what isn't known
abbrev pub refusal_line : Option Text → Option ℕ → Fault → Text
refusal_line None line fault = codes "refused: " ++ printed_text fault
refusal_line (Some path) line fault = codes "refused: " ++ path ++ line_text line ++ printed_text fault
