-- Which connections stand open, once something was done on one of them.
use Rattle.std.proofs.Common.{◌≡◌, ◌≢◌, ◌⊎◌, ℕ, [], ◌∷◌, ◌++◌, false, Option, Some, None, sym, ap, ◌∙◌, subst, inl, inr, true≢false}
use Rattle.std.proofs.lemmas.Bool.{cases_eq}
use Rattle.definitions.specs.Values.{Text}
use Rattle.http_definitions.specs.Connections.{Connection, closed}
use Rattle.connections.specs.Connected.{is_closed_at}
use Rattle.serving_many.specs.Needed.{IsNeeded, AllNeeded}
use Rattle.serving_many.specs.Going.{Tells}
use Rattle.serving_many.proofs.Among.{no_some}

pub needed_on : (c d : ℕ → Option Connection) (u v : ℕ → Option Text) (id : ℕ) → IsNeeded (d id) (v id) → ((k : ℕ) → k ≢ id → d k ≡ c k) → ((k : ℕ) → k ≢ id → v k ≡ u k) → AllNeeded c u → AllNeeded d v
needed_on c d u v id own same others x k = at (cases_eq k id)
  where
    at : (k ≡ id) ⊎ (k ≡ id → ⊥) → IsNeeded (d k) (v k)
    at (inl e) = subst (λ i. IsNeeded (d i) (v i)) (sym e) own
    at (inr ne) = rw (same k ne, others k ne) (x k)

-- ---- this one
pub gone : (c : Option Connection) (u : Option Text) → c ≡ None → u ≡ None → IsNeeded c u
gone c u none silent = rw (silent) none

pub stays_open : (c : Option Connection) → c ≡ None → is_closed_at c ≡ false → ⊥
stays_open c none opened = true≢false (sym (ap is_closed_at none) ∙ opened)

pub longer : (b : ℕ) (bytes wrote : Text) → wrote ≡ wrote ++ b ∷ bytes → ⊥
longer b bytes [] e = cc (e)
longer b bytes (w ∷ wrote) e = longer b bytes wrote (cc (e))

-- ---- not all was written of what a closed connection is to be sent
pub is_unfinished : (c : Option Connection) (u : Option Text) (sent wrote : Text) → IsNeeded c u → Tells sent wrote u → c ≡ Some closed → sent ≢ wrote
is_unfinished c None sent wrote x t e same = no_some closed c e x
is_unfinished c (Some []) sent wrote x t e same = true≢false (sym (ap is_closed_at e) ∙ x)
is_unfinished c (Some (b ∷ bytes)) sent wrote x t e same = longer b bytes wrote (sym same ∙ t)
