-- What lists of transfers are of one connection.
use Rattle.std.proofs.Common.{◌≡◌, ℕ, List, [], ◌∷◌, ◌++◌, ◌==◌, refl}
use Rattle.connections.proofs.Standings.{on_cond}
use Rattle.network.specs.Traffic.{Moved, bytes_of}

pub bytes_on : (k : ℕ) (xs ys : List Moved) → bytes_of k (xs ++ ys) ≡ bytes_of k xs ++ bytes_of k ys
bytes_on k [] ys = refl
bytes_on k (x ∷ xs) ys = on_cond (k == x.0) x.1 (bytes_of k xs) (bytes_of k ys) _ (bytes_on k xs ys)
