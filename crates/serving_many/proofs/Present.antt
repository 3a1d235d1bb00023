-- Which connections have a client, once something was done on one of them.
use Rattle.std.proofs.Common.{◌≡◌, ◌≢◌, ◌⊎◌, ℕ, [], ◌∷◌, Option, Some, None, sym, ap, ◌∙◌, subst, inl, inr}
use Rattle.std.proofs.lemmas.Bool.{cases_eq}
use Rattle.definitions.specs.Values.{Text}
use Rattle.http_definitions.specs.Connections.{Connection}
use Rattle.network.specs.declared.clients.Client.{Client}
use Rattle.serving_many.specs.Going.{Tells}
use Rattle.serving_many.specs.Needed.{IsNeeded}
use Rattle.serving_many.specs.Present.{client_of, AllPresent, MayStay}
use Rattle.serving_many.proofs.Needed.{longer, stays_open}

pub present_on : (c d : ℕ → Client) (u v : ℕ → Option Text) (id : ℕ) → d id ≡ client_of (v id) → ((k : ℕ) → k ≢ id → d k ≡ c k) → ((k : ℕ) → k ≢ id → v k ≡ u k)
    → ((k : ℕ) → k ≢ id → c k ≡ client_of (u k)) → AllPresent d v
present_on c d u v id own same others x k = at (cases_eq k id)
  where
    at : (k ≡ id) ⊎ (k ≡ id → ⊥) → d k ≡ client_of (v k)
    at (inl e) = subst (λ i. d i ≡ client_of (v i)) (sym e) own
    at (inr ne) = same k ne ∙ x k ne ∙ ap client_of (sym (others k ne))

-- who may still be there
pub may_stay : (client : Client) (c : Option Connection) (u : Option Text) (sent wrote : Text) → client ≡ client_of u → IsNeeded c u → Tells sent wrote u → MayStay client c sent wrote
may_stay client c None sent wrote is x t = rw is tt
may_stay client c (Some []) sent wrote is x t = rw is (λ none. absurd (stays_open c none x))
may_stay client c (Some (b ∷ bytes)) sent wrote is x t = rw is (λ none same. longer b bytes wrote (sym same ∙ t))
