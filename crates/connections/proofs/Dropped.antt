-- The bytes from a position on, moved to the front.
use Rattle.std.proofs.Common.{◌≡◌, ◌+◌, ◌-◌, ◌≤◌, ℕ, List, take, drop, length, length-drop, ap, sym, ◌∙◌, arith}
use Rattle.std.proofs.lemmas.List.{take_all}
use Rattle.std.proofs.lemmas.List.Edits.{take-paste}
use Rattle.std.specs.List.{copy_within}

pub moved_to_front : {X : Type 0} (xs : List X) (position rest : ℕ) → position ≤ length xs → rest ≡ length xs - position → take rest (copy_within xs position (length xs) 0) ≡ drop position xs
moved_to_front xs position rest within is =
    let left = length xs - position in
    let long : length (drop position xs) ≡ left = length-drop position xs in
    let all : 0 + left ≡ rest = omega (arith, is) in
    ap (λ k. take k (copy_within xs position (length xs) 0)) (sym all)
    ∙ take-paste xs 0 (drop position xs) left (omega arith) (omega (arith, long))
    ∙ take_all left (drop position xs) (omega (arith, long))
