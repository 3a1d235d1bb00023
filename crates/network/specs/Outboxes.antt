-- What is still to be sent on each connection.
use Rattle.std.specs.Prelude.{◌≡◌, ◌≢◌, ℕ, Bool, drop, is_some, Option, option_map, unwrap_or}
use Rattle.std.specs.BTreeMap.{get}
use Rattle.std.specs.Ordering.{nat_cmp}
use Rattle.definitions.specs.Values.{Text}
use Rattle.network.specs.Sizes.{size_of, total_size}
use Rattle.network.specs.declared.kept.Kept.{Kept}
use Rattle.network.specs.declared.outbox.Outbox.{Outbox}

abbrev pub rest_of : Kept → Text
rest_of kept = drop kept.start kept.bytes.items

-- the bytes that are still to be sent, where the connection is open
abbrev pub unsent_at : Outbox → ℕ → Option Text
unsent_at o id = option_map rest_of (get nat_cmp o.connections id)

-- every other connection is as it was
abbrev pub OthersStay : ℕ → Outbox → Outbox → Type 0
OthersStay id old new = (k : ℕ) → k ≢ id → unsent_at new k ≡ unsent_at old k

-- all numbers that were given are below it
abbrev pub count_of : Outbox → ℕ
count_of o = o.count

-- how many bytes a connection keeps, and all of them, and how many they may
abbrev pub size_at : Outbox → ℕ → ℕ
size_at o id = unwrap_or (option_map size_of (get nat_cmp o.connections id)) 0

abbrev pub memory_of : Outbox → ℕ
memory_of o = total_size o.connections

abbrev pub most_of : Outbox → ℕ
most_of o = o.most_memory

-- whether these were never more than can be counted
abbrev pub is_counted : Outbox → Bool
is_counted o = is_some o.memory
