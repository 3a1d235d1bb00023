-- A number by which keys are told apart before their texts are compared.
use Rattle.std.specs.Prelude.{ℕ, fold}
use Rattle.std.specs.Hash as fed
use Rattle.std.specs.Hash.FoldHasher.{initial, write, finish}
use Rattle.definitions.specs.Caches.{CacheKey}

unfoldable pub digest_of : CacheKey → ℕ
digest_of k = finish (fold write (fold write initial (fed.str k.0)) (fed.str k.1))
