-- All events, one after the other.
use Rattle.std.proofs.Common.{◌≡◌, ◌≢◌, ℕ, List, [], ◌∷◌, ◌++◌, ◌==◌, Bool, true, false, cond, map, length, refl, sym, ap, ◌∙◌, subst, append_assoc, append-nil, eqb-true, eq-eqb, true≢false}
use Rattle.std.proofs.lemmas.List.{map-append}
use Rattle.definitions.specs.Values.{Text}
use Rattle.http_definitions.specs.Connections.{Answers, AnswersAll}
use Rattle.http_laws.proofs.Pieces.{answers_on}
use Rattle.connections.specs.Events.{Event, Standing, none_is_open, IsChange, Happen, piece_in, bytes_in, stream_of, sent_to, Answered, messages_of, replies_of, IsServed, IsHistory}
use Rattle.connections.proofs.Sent.{pairs_of}
use Rattle.connections.proofs.AnsweredLists.{answered_by, by_messages, by_replies, own_messages, own_replies, other_messages, other_replies, messages_append, replies_append}
use Rattle.connections.proofs.Changed.{Adds, change_adds}

-- with p behind it for one id
with_at : ℕ → (ℕ → Text) → Text → ℕ → Text
with_at id texts p k = cond (k == id) (texts k ++ p) (texts k)

-- and then the rest
with_at_on : (id k : ℕ) (texts : ℕ → Text) (p more : Text) → with_at id texts p k ++ more ≡ texts k ++ cond (k == id) (p ++ more) more
unfolding with_at
with_at_on id k texts p more = by (k == id)
  where
    by : (t : Bool) → cond t (texts k ++ p) (texts k) ++ more ≡ texts k ++ cond t (p ++ more) more
    by true = append_assoc (texts k) p more
    by false = refl

-- the state after some events
abbrev IsSoFar : {S : Type 0} → Answers S → S → (ℕ → Text) → (ℕ → Text) → (ℕ → Standing) → S → List Answered → Type 0
IsSoFar answers s streams outs at t xs =
    AnswersAll answers s (map (λ (a : Answered). a.message) xs) (map (λ (a : Answered). a.reply) xs) t
    × ((k : ℕ) → IsServed (streams k) (messages_of k xs) (replies_of k xs) (outs k) (at k))

other_than : (k id : ℕ) → (k == id) ≡ false → k ≢ id
other_than k id e same = true≢false (sym (eq-eqb k id same) ∙ e)

step : {S : Type 0} (answers : Answers S) (s t u : S) (streams outs : ℕ → Text) (at next : ℕ → Standing) (e : Event) (xs : List Answered)
    → IsSoFar answers s streams outs at t xs → IsChange answers (at e.connection) t e.change (next e.connection) u
    → ((k : ℕ) → k ≢ e.connection → next k ≡ at k)
    → (ys : List Answered) × IsSoFar answers s (with_at e.connection streams (piece_in e.change)) (with_at e.connection outs (bytes_in e.change)) next u ys
unfolding with_at
step {S} answers s t u streams outs at next e xs x change others = (
  xs ++ answered_by e.connection y.messages y.replies,
  (
    rw (map-append (λ (a : Answered). a.message) xs (answered_by e.connection y.messages y.replies), map-append (λ (a : Answered). a.reply) xs (answered_by e.connection y.messages y.replies), by_messages e.connection y.messages y.replies paired, by_replies e.connection y.messages y.replies paired)
        (answers_on answers (map (λ (a : Answered). a.message) xs) y.messages (map (λ (a : Answered). a.reply) xs) y.replies s t u x.0 y.answered),
    λ k. by k (k == e.connection) refl,
  ),
)
  where
    y : Adds answers (at e.connection) t e.change (next e.connection) u
    y = change_adds answers (at e.connection) t e.change (next e.connection) u change

    paired : length y.messages ≡ length y.replies
    paired = pairs_of answers y.messages y.replies t u y.answered

    by : (k : ℕ) (b : Bool) → (k == e.connection) ≡ b
        → IsServed (cond b (streams k ++ piece_in e.change) (streams k)) (messages_of k (xs ++ (answered_by e.connection y.messages y.replies))) (replies_of k (xs ++ (answered_by e.connection y.messages y.replies))) (cond b (outs k ++ bytes_in e.change) (outs k)) (next k)
    by k true i =
        let same : k ≡ e.connection = eqb-true k e.connection i in
        let on = y.on (streams k) (messages_of k xs) (replies_of k xs) (outs k)
        (subst (λ c. IsServed (streams k) (messages_of k xs) (replies_of k xs) (outs k) c) (ap at same) (x.1 k)) in
        rw (messages_append k xs (answered_by e.connection y.messages y.replies), replies_append k xs (answered_by e.connection y.messages y.replies), own_messages k e.connection y.messages y.replies i paired, own_replies k e.connection y.messages y.replies i paired)
        (subst (λ c. IsServed (streams k ++ piece_in e.change) (messages_of k xs ++ y.messages) (replies_of k xs ++ y.replies) (outs k ++ bytes_in e.change) c) (ap next (sym same)) on)
    by k false i =
        rw (
          messages_append k xs (answered_by e.connection y.messages y.replies),
          replies_append k xs (answered_by e.connection y.messages y.replies),
          other_messages k e.connection y.messages y.replies i,
          other_replies k e.connection y.messages y.replies i,
          append-nil (messages_of k xs),
          append-nil (replies_of k xs),
        )
        (subst (λ c. IsServed (streams k) (messages_of k xs) (replies_of k xs) (outs k) c) (sym (others k (other_than k e.connection i))) (x.1 k))

-- ---- all events
all_happened : {S : Type 0} (answers : Answers S) (es : List Event) (s t u : S) (streams outs : ℕ → Text) (at now : ℕ → Standing) (xs : List Answered)
    → IsSoFar answers s streams outs at t xs → Happen answers at t es now u
    → (ys : List Answered) × IsSoFar answers s (λ k. streams k ++ stream_of k es) (λ k. outs k ++ sent_to k es) now u ys
all_happened {S} answers [] s t u streams outs at now xs x happened = (
  xs,
  (
    subst (λ (v : S). AnswersAll answers s (map (λ (a : Answered). a.message) xs) (map (λ (a : Answered). a.reply) xs) v) (sym happened.1) x.0,
    λ k. rw (append-nil (streams k), append-nil (outs k), happened.0 k) (x.1 k),
  ),
)
all_happened answers (e ∷ es) s t u streams outs at now xs x happened =
    let one = step answers s t happened.1 streams outs at happened.0 e xs x happened.2 happened.3 in
    let rest = all_happened answers es s happened.1 u (with_at e.connection streams (piece_in e.change)) (with_at e.connection outs (bytes_in e.change)) happened.0 now one.0 one.1 happened.4 in (
      rest.0,
      (
        rest.1.0,
        λ k. subst (λ a. IsServed a (messages_of k rest.0) (replies_of k rest.0) (outs k ++ sent_to k (e ∷ es)) (now k)) (with_at_on e.connection k streams (piece_in e.change) (stream_of k es))
            (subst (λ o. IsServed (with_at e.connection streams (piece_in e.change) k ++ stream_of k es) (messages_of k rest.0) (replies_of k rest.0) o (now k)) (with_at_on e.connection k outs (bytes_in e.change) (sent_to k es)) (rest.1.1 k)),
      ),
    )

pub history_of : {S : Type 0} (answers : Answers S) (es : List Event) (s t : S) (now : ℕ → Standing)
    → Happen answers none_is_open s es now t → (xs : List Answered) × IsHistory answers s es now t xs
history_of answers es s t now happened =
    let all = all_happened answers es s s t (λ k. []) (λ k. []) none_is_open now [] (refl, λ k. (refl, refl, refl, refl)) happened in
    (all.0, record { answered = all.1.0; served = all.1.1 })
