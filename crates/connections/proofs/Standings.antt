-- How connections stand once one stands otherwise, and what events are of one connection.
use Rattle.std.proofs.Common.{◌≡◌, ◌≢◌, ℕ, List, [], ◌∷◌, ◌++◌, ◌==◌, Bool, true, false, cond, refl, sym, ap, ◌∙◌, append_assoc, append-nil, eqb-true, eq-eqb}
use Rattle.definitions.specs.Values.{Text}
use Rattle.connections.specs.Events.{Event, Standing, piece_in, bytes_in, stream_of, sent_to}

-- one connection stands so, and the others as they did
pub put_at : ℕ → Standing → (ℕ → Standing) → ℕ → Standing
put_at id x at k = cond (k == id) x (at k)

pub put_here : (id : ℕ) (x : Standing) (at : ℕ → Standing) → put_at id x at id ≡ x
unfolding put_at
put_here id x at = rw (eq-eqb id id refl) refl

pub put_elsewhere : (id k : ℕ) (x : Standing) (at : ℕ → Standing) → k ≢ id → put_at id x at k ≡ at k
unfolding put_at
put_elsewhere id k x at ne = by (k == id) refl
  where
    by : (t : Bool) → (k == id) ≡ t → cond t x (at k) ≡ at k
    by true i = absurd (ne (eqb-true k id i))
    by false i = refl

-- ---- what was fed and sent, by events one after the other
pub on_cond : (t : Bool) (x xs ys zs : Text) → zs ≡ xs ++ ys → cond t (x ++ zs) zs ≡ cond t (x ++ xs) xs ++ ys
on_cond true x xs ys zs e = ap (λ l. x ++ l) e ∙ sym (append_assoc x xs ys)
on_cond false x xs ys zs e = e

pub streams_on : (k : ℕ) (xs ys : List Event) → stream_of k (xs ++ ys) ≡ stream_of k xs ++ stream_of k ys
streams_on k [] ys = refl
streams_on k (e ∷ xs) ys = on_cond (k == e.connection) (piece_in e.change) (stream_of k xs) (stream_of k ys) _ (streams_on k xs ys)

pub sent_on : (k : ℕ) (xs ys : List Event) → sent_to k (xs ++ ys) ≡ sent_to k xs ++ sent_to k ys
sent_on k [] ys = refl
sent_on k (e ∷ xs) ys = on_cond (k == e.connection) (bytes_in e.change) (sent_to k xs) (sent_to k ys) _ (sent_on k xs ys)

-- ---- one of a connection
pub is_own : (k : ℕ) (x : Text) → cond (k == k) (x ++ []) [] ≡ x
is_own k x = rw (eq-eqb k k refl) (append-nil x)

pub is_other : (k id : ℕ) (x : Text) → k ≢ id → cond (k == id) x [] ≡ []
is_other k id x ne = by (k == id) refl
  where
    by : (t : Bool) → (k == id) ≡ t → cond t x [] ≡ []
    by true i = absurd (ne (eqb-true k id i))
    by false i = refl
