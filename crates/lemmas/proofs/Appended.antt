-- Lists that were appended one after the other.
use Rattle.std.proofs.Common.{◌≡◌, List, ◌++◌, ap, ◌∙◌, append_assoc}

pub appended : {A : Type 0} (old a b xs ys : List A) → a ≡ old ++ xs → b ≡ a ++ ys → b ≡ old ++ (xs ++ ys)
appended old a b xs ys first next = next ∙ ap (λ ts. ts ++ ys) first ∙ append_assoc old xs ys
