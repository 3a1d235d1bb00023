-- The keys of a cache after requests for compiled documents.
use Rattle.std.proofs.Common.{◌≡◌, refl}
use Rattle.std.specs.Prelude.{ℕ, List, [], ◌∷◌, codes, true, false}
use Rattle.definitions.specs.Values.{Text}
use Rattle.definitions.specs.Caches.{Cache, CacheKey, cache_after_use, is_capacity}

-- asked for in turn, from an empty cache on
abbrev kept : ℕ → List CacheKey → Cache
kept capacity [] = record { keys = []; capacity = capacity }
kept capacity (k ∷ ks) = cache_after_use (kept capacity ks) k

abbrev at : Text → CacheKey
at base = (base, codes "{}")

last_alone : (kept 1 (at (codes "https://ex.org/b") ∷ at (codes "https://ex.org/a") ∷ [])).keys ≡ at (codes "https://ex.org/b") ∷ []
last_alone = refl

two_of_three : (kept 2 (at (codes "https://ex.org/c") ∷ at (codes "https://ex.org/b") ∷ at (codes "https://ex.org/a") ∷ [])).keys
    ≡ at (codes "https://ex.org/c") ∷ at (codes "https://ex.org/b") ∷ []
two_of_three = refl

-- the one that was asked for again stays
asked_again : (kept 2 (at (codes "https://ex.org/c") ∷ at (codes "https://ex.org/a") ∷ at (codes "https://ex.org/b") ∷ at (codes "https://ex.org/a") ∷ [])).keys
    ≡ at (codes "https://ex.org/c") ∷ at (codes "https://ex.org/a") ∷ []
asked_again = refl

-- another value under the same URI has a key of its own
by_value : (kept 2 ((codes "https://ex.org/a", codes "[]") ∷ at (codes "https://ex.org/a") ∷ [])).keys
    ≡ (codes "https://ex.org/a", codes "[]") ∷ at (codes "https://ex.org/a") ∷ []
by_value = refl

least_capacity : is_capacity 1 ≡ true
least_capacity = refl

no_capacity : is_capacity 0 ≡ false
no_capacity = refl
