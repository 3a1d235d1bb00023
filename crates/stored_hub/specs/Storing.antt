-- What a store keeps of the registries of all tenants, and what an opening finds.
use Rattle.std.specs.Prelude.{◌≡◌, Bool, true, false, List, Option, None}
use Rattle.std.proofs.Props.{props}
use Rattle.connections.specs.declared.handlers.Unsettled.{Unsettled}
use Rattle.definitions.specs.Patterns.{regular_search}
use Rattle.definitions.specs.Registries.{Reply, stored, deleted, stored_all}
use Rattle.definitions.specs.Services.{KeyedRegistry}
use Rattle.definitions.specs.Values.{Text}
use Rattle.stored_rows.specs.Restoring.{Restores, emptied}
use Rattle.stored_rows.specs.Rows.{Ascend, HasNoRow, NewHasNoRow, Row, rows_after, rows_of}

-- unless it is behind, the store has the rows of the registries
abbrev pub IsStored : {D : Type 0} → (D → List Row → Type 0) → D → Option Unsettled → List KeyedRegistry → Type 0
IsStored {D} holds store behind ks = behind ≡ None → holds store (rows_of ks)

-- where nothing was written since the last commit, an opening finds those rows and no others
abbrev pub IsSettled : {D : Type 0} → (D → List Row → Type 0) → D → Bool → List KeyedRegistry → Type 0
IsSettled {D} recovers store is_dirty ks = is_dirty ≡ false → (rs : List Row) → recovers store rs → rs ≡ rows_of ks

pub IsSettled-prop : {D : Type 0} (recovers : D → List Row → Type 0) (store : D) (is_dirty : Bool) (ks : List KeyedRegistry) → IsProp (IsSettled recovers store is_dirty ks)
IsSettled-prop recovers store is_dirty ks = hlevel props

-- rows that an opening may recover give these registries, with the same keys, quotas and library
abbrev pub Finds : {D : Type 0} → (D → List Row → Type 0) → D → List KeyedRegistry → List KeyedRegistry → Type 0
Finds {D} recovers store ks ls = (rs : List Row) × (recovers store rs × Restores regular_search (emptied ks) rs ls)

-- ---- what is written
-- the reply grants a change
abbrev pub is_change : Reply → Bool
is_change (stored uri there) = true
is_change (deleted uri) = true
is_change (stored_all us) = true
is_change _ = false

-- the rows that the store has are changed so
abbrev pub WritesInto : {D : Type 0} → (D → List Row → Type 0) → D → (List Row → List Row) → D → Type 0
WritesInto {D} holds before change after = (rs : List Row) → Ascend rs → holds before rs → holds after (change rs)

-- .. where none of them has this tenant and this URI
abbrev pub WritesNew : {D : Type 0} → (D → List Row → Type 0) → D → Text → Text → (List Row → List Row) → D → Type 0
WritesNew {D} holds before tenant uri change after =
    (rs : List Row) → Ascend rs → HasNoRow tenant uri rs → holds before rs → holds after (change rs)

-- .. as the reply to the tenant with this key says, where none of them is a new document's
abbrev pub WritesReply : {D : Type 0} → (D → List Row → Type 0) → D → Text → List KeyedRegistry → Reply → D → Type 0
WritesReply {D} holds before key ks r after =
    (rs : List Row) → Ascend rs → NewHasNoRow key r rs → holds before rs → holds after (rows_after key ks r rs)

-- an opening may find no rows that it couldn't have found before
abbrev pub RecoversNoMore : {D : Type 0} → (D → List Row → Type 0) → D → D → Type 0
RecoversNoMore {D} recovers before after = (rs : List Row) → recovers after rs → recovers before rs

-- it was only read: it has the rows that it had, and an opening may find no others than before
pub record OnlyReads {D : Type 0} (holds recovers : D → List Row → Type 0) (before after : D) : Type 0 where
  pub same : (rs : List Row) → holds before rs → holds after rs
  pub found : RecoversNoMore recovers before after
