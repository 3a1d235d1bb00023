-- Anchors and steps, as marks and hops.
use Rattle.std.proofs.Common.{◌≡◌, List, [], ◌∷◌, refl, ap₂}
use Rattle.locations.specs.Steps.{token, tokens}
use Rattle.locations.specs.declared.step.Step.{Step}
use Rattle.locations.specs.declared.step.Step.TheVariants.{Name, Index, Keyword}
use Rattle.locations.specs.Hops.{hop_token, hop_tokens, step_hop, step_hops}

step-token : (s : Step) → token s ≡ hop_token (step_hop s)
step-token (Name n) = refl
step-token (Index i) = refl
step-token (Keyword k) = refl

pub tokens-hops : (ss : List Step) → tokens ss ≡ hop_tokens (step_hops ss)
tokens-hops [] = refl
tokens-hops (s ∷ ss) = ap₂ (λ t ts. t ∷ ts) (step-token s) (tokens-hops ss)
