-- The requests that are answered, each with its connection.
use Rattle.std.proofs.Common.{◌≡◌, ℕ, List, [], ◌∷◌, ◌++◌, ◌==◌, Bool, true, false, cond, map, length, refl, ap, arith}
use Rattle.definitions.specs.Registries.{Reply}
use Rattle.http_definitions.specs.Streams.{Message}
use Rattle.connections.specs.Events.{Answered, messages_of, replies_of}

-- ---- the requests that one event answers
pub answered_by : ℕ → List Message → List Reply → List Answered
answered_by id (m ∷ ms) (r ∷ rs) = record { connection = id; message = m; reply = r } ∷ answered_by id ms rs
answered_by id [] rs = []
answered_by id (m ∷ ms) [] = []

pub by_messages : (id : ℕ) (ms : List Message) (rs : List Reply) → length ms ≡ length rs → map (λ (a : Answered). a.message) (answered_by id ms rs) ≡ ms
unfolding answered_by
by_messages id [] rs e = refl
by_messages id (m ∷ ms) [] e = absurd (omega (arith, e))
by_messages id (m ∷ ms) (r ∷ rs) e = ap (λ ns. m ∷ ns) (by_messages id ms rs (omega (arith, e)))

pub by_replies : (id : ℕ) (ms : List Message) (rs : List Reply) → length ms ≡ length rs → map (λ (a : Answered). a.reply) (answered_by id ms rs) ≡ rs
unfolding answered_by
by_replies id [] [] e = refl
by_replies id [] (r ∷ rs) e = absurd (omega (arith, e))
by_replies id (m ∷ ms) [] e = absurd (omega (arith, e))
by_replies id (m ∷ ms) (r ∷ rs) e = ap (λ ns. r ∷ ns) (by_replies id ms rs (omega (arith, e)))

pub own_messages : (k id : ℕ) (ms : List Message) (rs : List Reply) → (k == id) ≡ true → length ms ≡ length rs → messages_of k (answered_by id ms rs) ≡ ms
unfolding answered_by
own_messages k id [] rs i e = refl
own_messages k id (m ∷ ms) [] i e = absurd (omega (arith, e))
own_messages k id (m ∷ ms) (r ∷ rs) i e = rw i (ap (λ ns. m ∷ ns) (own_messages k id ms rs i (omega (arith, e))))

pub own_replies : (k id : ℕ) (ms : List Message) (rs : List Reply) → (k == id) ≡ true → length ms ≡ length rs → replies_of k (answered_by id ms rs) ≡ rs
unfolding answered_by
own_replies k id [] [] i e = refl
own_replies k id [] (r ∷ rs) i e = absurd (omega (arith, e))
own_replies k id (m ∷ ms) [] i e = absurd (omega (arith, e))
own_replies k id (m ∷ ms) (r ∷ rs) i e = rw i (ap (λ ns. r ∷ ns) (own_replies k id ms rs i (omega (arith, e))))

pub other_messages : (k id : ℕ) (ms : List Message) (rs : List Reply) → (k == id) ≡ false → messages_of k (answered_by id ms rs) ≡ []
unfolding answered_by
other_messages k id [] rs i = refl
other_messages k id (m ∷ ms) [] i = refl
other_messages k id (m ∷ ms) (r ∷ rs) i = rw i (other_messages k id ms rs i)

pub other_replies : (k id : ℕ) (ms : List Message) (rs : List Reply) → (k == id) ≡ false → replies_of k (answered_by id ms rs) ≡ []
unfolding answered_by
other_replies k id [] rs i = refl
other_replies k id (m ∷ ms) [] i = refl
other_replies k id (m ∷ ms) (r ∷ rs) i = rw i (other_replies k id ms rs i)

cond_append : {A : Type 0} (t : Bool) (x : A) (xs ys zs : List A) → zs ≡ xs ++ ys → cond t (x ∷ zs) zs ≡ cond t (x ∷ xs) xs ++ ys
cond_append true x xs ys zs e = ap (λ l. x ∷ l) e
cond_append false x xs ys zs e = e

pub messages_append : (k : ℕ) (xs ys : List Answered) → messages_of k (xs ++ ys) ≡ messages_of k xs ++ messages_of k ys
messages_append k [] ys = refl
messages_append k (a ∷ xs) ys = cond_append (k == a.connection) a.message (messages_of k xs) (messages_of k ys) _ (messages_append k xs ys)

pub replies_append : (k : ℕ) (xs ys : List Answered) → replies_of k (xs ++ ys) ≡ replies_of k xs ++ replies_of k ys
replies_append k [] ys = refl
replies_append k (a ∷ xs) ys = cond_append (k == a.connection) a.reply (replies_of k xs) (replies_of k ys) _ (replies_append k xs ys)
