-- What an opening puts back.
use Rattle.std.specs.Prelude.{◌≡◌, List, Option, Some, None, ⊤}
use Rattle.std.specs.declared.cmp.Ordering.TheVariants.{Less}
use Rattle.definitions.specs.Patterns.{regular_search}
use Rattle.definitions.specs.Registries.{Registry}
use Rattle.definitions.specs.Services.{KeyedRegistry, registry_of, with_registry}
use Rattle.definitions.specs.Values.{Text}
use Rattle.stored_rows.specs.Restoring.{PutsBack, Restores}
use Rattle.stored_rows.specs.Rows.{Row, digest, row_cmp, rows_of}

-- the row's document is put back into the registry of its tenant, and into no other
abbrev pub IsPutBack : List KeyedRegistry → Row → List KeyedRegistry → Type 0
IsPutBack ks r ls =
    (key : Text) × (g : Registry) × (h : Registry) × (digest key ≡ r.tenant) × (registry_of ks key ≡ Some g)
    × PutsBack regular_search g key r h × (ls ≡ with_registry ks key h)

-- the row stands behind this one, where there is one
abbrev pub IsBehind : Option Row → Row → Type 0
IsBehind None r = ⊤
IsBehind (Some last) r = row_cmp last r ≡ Less

-- all rows that the store has are put back, and they are the rows of the registries that this gives
abbrev pub IsRestoredFrom : {D : Type 0} → (D → List Row → Type 0) → List KeyedRegistry → D → List KeyedRegistry → Type 0
IsRestoredFrom {D} holds ks store ls = (rs : List Row) × (holds store rs × Restores regular_search ks rs ls × (rows_of ls ≡ rs))
