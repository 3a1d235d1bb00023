-- What an opening may find after a crash.
use Rattle.std.specs.Prelude.{◌≡◌}

-- .. after this it may find nothing that it might not have found before
abbrev pub FindsNoMore : {H S : Type 0} → (H → S → Type 0) → H → H → Type 0
FindsNoMore {H} {S} finds before after = (s : S) → finds after s → finds before s

-- .. it finds this state alone
abbrev pub FindsOnly : {H S : Type 0} → (H → S → Type 0) → H → S → Type 0
FindsOnly {H} {S} finds now t = (s : S) → finds now s → s ≡ t
