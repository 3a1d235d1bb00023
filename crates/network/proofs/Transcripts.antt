-- One more call.
use Rattle.std.proofs.Common.{◌≡◌, List, [], ◌∷◌, ◌++◌, Option, Some, None, refl, ap}
use Rattle.network.specs.Traffic.{Moved}
use Rattle.network.specs.Transcripts.{moves_in}

pub one_moved : (cs : List (Option Moved)) (m : Moved) → moves_in (cs ++ Some m ∷ []) ≡ moves_in cs ++ m ∷ []
one_moved [] m = refl
one_moved (None ∷ cs) m = one_moved cs m
one_moved (Some n ∷ cs) m = ap (λ ms. n ∷ ms) (one_moved cs m)

pub one_failed : (cs : List (Option Moved)) → moves_in (cs ++ None ∷ []) ≡ moves_in cs
one_failed [] = refl
one_failed (None ∷ cs) = one_failed cs
one_failed (Some n ∷ cs) = ap (λ ms. n ∷ ms) (one_failed cs)
