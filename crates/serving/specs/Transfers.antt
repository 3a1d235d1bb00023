-- What the calls of a reader or a writer moved.
use Rattle.std.specs.Prelude.{ℕ, List, [], ◌∷◌, ◌++◌, Option, Some, None, Result, Ok, Err, length, take}
use Rattle.definitions.specs.Values.{Text}

-- the bytes that a call moved; none where it failed
abbrev pub Transfer : Type 0
Transfer = Option Text

-- how many they are
abbrev pub transfer_size : Transfer → ℕ
transfer_size (Some bytes) = length bytes
transfer_size None = 0

-- all bytes of some calls, in order
abbrev pub transferred_bytes : List Transfer → Text
transferred_bytes [] = []
transferred_bytes (None ∷ ts) = transferred_bytes ts
transferred_bytes (Some bytes ∷ ts) = bytes ++ transferred_bytes ts

-- what a call moved of these bytes
abbrev pub transfer_of : {E : Type 0} → Result ℕ E → Text → Transfer
transfer_of (Ok n) bytes = Some (take n bytes)
transfer_of (Err e) bytes = None
