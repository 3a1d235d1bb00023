-- Registries whose documents a store keeps.
use Rattle.std.specs.Prelude.{◌≡◌, List}
use Rattle.definitions.specs.Services.{KeyedRegistry}
use Rattle.stored_rows.specs.Rows.{Row}
use Rattle.stored_hub.specs.Storing.{Finds}

-- an opening after a crash at this moment finds these registries, and no others
abbrev pub FindsThese : {D : Type 0} → (D → List Row → Type 0) → D → List KeyedRegistry → Type 0
FindsThese recovers store ks = (ls : List KeyedRegistry) → Finds recovers store ks ls → ls ≡ ks
