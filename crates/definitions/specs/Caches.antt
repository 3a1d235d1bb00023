-- The keys of a cache of compiled documents, the most recently used first.
use Rattle.std.specs.Prelude.{◌≡◌, ◌⊎◌, ℕ, Bool, false, ◌&&◌, not, List, ◌∷◌, take, filter, nat_lt, nat_le}
use Rattle.std.specs.List.{list_any}
use Rattle.definitions.specs.Limits.{limits}
use Rattle.definitions.specs.Values.{Text, same_text}

-- the base form that the document stands under, and the compact text of its value
abbrev pub CacheKey : Type 0
CacheKey = Text × Text

abbrev pub same_key : CacheKey → CacheKey → Bool
same_key k l = same_text k.0 l.0 && same_text k.1 l.1

abbrev pub is_capacity : ℕ → Bool
is_capacity n = nat_lt 0 n && nat_le n limits.capacity

pub record Cache : Type 0 where
  pub keys : List CacheKey
  -- how many keys there may be
  pub capacity : ℕ

-- the key was asked for: it comes first, then the others, as many as there may be
abbrev pub cache_after_use : Cache → CacheKey → Cache
cache_after_use c k = record c { keys = take c.capacity (k ∷ filter (λ l. not (same_key k l)) c.keys) }

abbrev pub has_key : Cache → CacheKey → Bool
has_key c k = list_any (same_key k) c.keys

-- the key was used, or it is new and found no memory
abbrev pub IsUsed : Cache → CacheKey → Cache → Type 0
IsUsed before k after = (after ≡ cache_after_use before k) ⊎ ((after ≡ before) × (has_key before k ≡ false))
