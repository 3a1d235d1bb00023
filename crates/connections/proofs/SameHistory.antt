-- The same requests in the same order are answered alike.
use Rattle.std.proofs.Common.{◌≡◌, ℕ, List, [], ◌∷◌, ◌++◌, map, refl, sym, ap, ap₂, ◌∙◌, subst, append_assoc}
use Rattle.definitions.specs.Values.{Text}
use Rattle.definitions.specs.Registries.{Reply}
use Rattle.http_definitions.specs.Streams.{Message, close}
use Rattle.http_definitions.specs.Connections.{Answers, AnswersAll, Connection, reply_texts, Ends, last_words}
use Rattle.http_laws.specs.Answering.{AnswerOnce, IsSameSoFar}
use Rattle.http_laws.specs.Spelling.{SpellsAll}
use Rattle.http_laws.proofs.SpelledOnce.{spelled_once}
use Rattle.http_laws.proofs.AnsweredOnce.{replied_once, ends_alike, ended_has_none, end_words, ended_words}
use Rattle.connections.specs.Events.{Event, Standing, served, ended, Answered, asked_messages, messages_of, replies_of, stream_of, sent_to, IsSent, IsSentToTheEnd, IsServed, IsHistory, AreSentAlike}

abbrev made : ℕ × Message → Reply → Answered
made q r = record { connection = q.0; message = q.1; reply = r }

-- requests with their replies, from both
same_answered : (xs ys : List Answered) → asked_messages xs ≡ asked_messages ys → map (λ (a : Answered). a.reply) xs ≡ map (λ (a : Answered). a.reply) ys → xs ≡ ys
same_answered [] [] e f = refl
same_answered [] (b ∷ ys) e f = absurd (cc e)
same_answered (a ∷ xs) [] e f = absurd (cc e)
same_answered (a ∷ xs) (b ∷ ys) e f =
    let first : ◌≡◌ {A = ℕ × Message} (a.connection, a.message) (b.connection, b.message) = cc e in
    let reply : a.reply ≡ b.reply = cc f in
    let rest : asked_messages xs ≡ asked_messages ys = cc e in
    let replies : map (λ (x : Answered). x.reply) xs ≡ map (λ (x : Answered). x.reply) ys = cc f in
    ap₂ (λ x xs. x ∷ xs) (ap₂ made first reply) (same_answered xs ys rest replies)

same_messages : (xs ys : List Answered) → asked_messages xs ≡ asked_messages ys → map (λ (a : Answered). a.message) xs ≡ map (λ (a : Answered). a.message) ys
same_messages [] [] e = refl
same_messages [] (b ∷ ys) e = absurd (cc e)
same_messages (a ∷ xs) [] e = absurd (cc e)
same_messages (a ∷ xs) (b ∷ ys) e =
    let first : ◌≡◌ {A = ℕ × Message} (a.connection, a.message) (b.connection, b.message) = cc e in
    let rest : asked_messages xs ≡ asked_messages ys = cc e in
    ap₂ (λ x xs. x ∷ xs) (ap (λ (q : ℕ × Message). q.1) first) (same_messages xs ys rest)

spells_all : (a : Text) (ms : List Message) (rs : List Reply) (out : Text) (now : Connection) (x : IsSent a ms rs out now) → SpellsAll a ms x.rest
spells_all a ms rs out now x = (x.spelled, λ e. ended_has_none x.rest x.told now (subst (λ c. Ends c x.rest x.told now) e x.ends))

-- one stream with the same replies
sent_alike : (a b : Text) (ms : List Message) (rs : List Reply) (out told : Text) (now other : Connection) → a ≡ b
    → IsSent a ms rs out now → IsSent b ms rs told other → IsSameSoFar out now told other
sent_alike a b ms rs out told now other e x y =
    let z = subst (λ t. IsSent t ms rs told other) (sym e) y in
    let same = spelled_once a ms ms x.rest z.rest (spells_all a ms rs out now x) (spells_all a ms rs told other z) in
    subst (λ o. IsSameSoFar o now told other) (sym x.out_is)
    (subst (λ o. IsSameSoFar (reply_texts ms rs ++ x.told) now o other) (sym z.out_is)
    (ends_alike (close ms) z.rest x.told z.told (reply_texts ms rs) now other (subst (λ r. Ends (close ms) r x.told now) same.1 x.ends) z.ends))

-- .. also at its end
ended_alike : (a b : Text) (ms : List Message) (rs : List Reply) (out told : Text) → a ≡ b
    → IsSentToTheEnd a ms rs out → IsSentToTheEnd b ms rs told → out ≡ told
ended_alike a b ms rs out told e x y =
    let z = subst (λ t. IsSent t ms rs y.told y.now) (sym e) y.sent in
    let same = spelled_once a ms ms x.sent.rest z.rest (spells_all a ms rs x.told x.now x.sent) (spells_all a ms rs y.told y.now z) in
    let words = ended_words (close ms) x.sent.rest x.sent.told x.now x.sent.ends in
    let others = ended_words (close ms) z.rest z.told y.now z.ends in
    whole x.told x.sent.told out x.now x.sent.out_is x.out_is
    ∙ ap (λ w. reply_texts ms rs ++ w) (words ∙ ap (end_words (close ms)) same.1 ∙ sym others)
    ∙ sym (whole y.told z.told told y.now z.out_is y.out_is)
  where
    whole : (sent words all : Text) (now : Connection) → sent ≡ reply_texts ms rs ++ words → all ≡ sent ++ last_words now
        → all ≡ reply_texts ms rs ++ (words ++ last_words now)
    whole sent words all now e f = f ∙ ap (λ t. t ++ last_words now) e ∙ append_assoc (reply_texts ms rs) words (last_words now)

alike : (a b : Text) (ms : List Message) (rs : List Reply) (out told : Text) (now other : Standing) → a ≡ b
    → IsServed a ms rs out now → IsServed b ms rs told other → AreSentAlike out now told other
alike a b ms rs out told (served c) (served d) e x y = sent_alike a b ms rs out told c d e x y
alike a b ms rs out told ended ended e x y = ended_alike a b ms rs out told e x y
alike a b ms rs out told now other e x y = tt

pub same_history : {S : Type 0} (answers : Answers S) → AnswerOnce answers
    → (es fs : List Event) (s t u : S) (now other : ℕ → Standing) (xs ys : List Answered)
    → IsHistory answers s es now t xs → IsHistory answers s fs other u ys
    → asked_messages xs ≡ asked_messages ys → ((k : ℕ) → stream_of k es ≡ stream_of k fs)
    → (t ≡ u) × ((k : ℕ) → AreSentAlike (sent_to k es) (now k) (sent_to k fs) (other k))
same_history answers once es fs s t u now other xs ys x y e streams =
    let ms = map (λ (b : Answered). b.message) ys in
    let one = replied_once answers ms (map (λ (a : Answered). a.reply) xs) (map (λ (b : Answered). b.reply) ys) s t u once
    (subst (λ ns. AnswersAll answers s ns (map (λ (a : Answered). a.reply) xs) t) (same_messages xs ys e) x.answered) y.answered in
    let same = same_answered xs ys e one.0 in (
      one.1,
      λ k. alike (stream_of k es) (stream_of k fs) (messages_of k ys) (replies_of k ys) (sent_to k es) (sent_to k fs) (now k) (other k) (streams k)
          (subst (λ cs. IsServed (stream_of k es) (messages_of k cs) (replies_of k cs) (sent_to k es) (now k)) same (x.served k)) (y.served k),
    )
