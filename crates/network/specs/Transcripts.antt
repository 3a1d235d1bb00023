-- What a transcript tells: of many connections, or of one.
use Rattle.std.specs.Prelude.{ℕ, List, [], ◌∷◌, Option, Some, None, map, option_map}
use Rattle.definitions.specs.Values.{Text}
use Rattle.network.specs.Traffic.{Moved}
use Rattle.network.specs.declared.transcript.Transcript.{Transcript}

-- the calls that moved bytes
abbrev pub moves_in : List (Option Moved) → List Moved
moves_in [] = []
moves_in (None ∷ cs) = moves_in cs
moves_in (Some m ∷ cs) = m ∷ moves_in cs

abbrev pub moves_of : Transcript → List Moved
moves_of t = moves_in t.calls

-- .. and on which connections
abbrev pub ids_of : Transcript → List ℕ
ids_of t = map (λ m. m.0) (moves_of t)

-- the bytes that each call moved; none where it failed
abbrev pub transfers_in : List (Option Moved) → List (Option Text)
transfers_in = map (option_map (λ m. m.1))

abbrev pub transfers_of : Transcript → List (Option Text)
transfers_of t = transfers_in t.calls
