-- The line that tells that a connection ended by a fault.
use Rattle.std.specs.Prelude.{ℕ, ◌++◌, ◌∷◌, [], codes, decimal}
use Rattle.definitions.specs.Bytes.{line_feed}
use Rattle.definitions.specs.Faults.{Fault, name_of}
use Rattle.definitions.specs.Values.{Text}
use Rattle.faults.specs.View.{fault_view}
use Rattle.sockets.specs.declared.interruption.Interruption.{Interruption}

-- its number, from 1 on, and the fault's name
abbrev pub interruption_line : ℕ → Fault → Text
interruption_line number f = codes "connection " ++ decimal number ++ codes ": " ++ name_of f ++ line_feed ∷ []

abbrev pub line_of : Interruption → Text
line_of i = interruption_line i.number (fault_view i.fault)
