-- A stream has one answer.
use Rattle.std.proofs.Common.{refl, sym, ap, ap₂, ◌∙◌, subst, append_assoc, append-nil, inl, inr}
use Rattle.std.specs.Prelude.{◌≡◌, List, [], ◌∷◌, ◌++◌, Bool, true, false, Option, Some, None}
use Rattle.definitions.specs.Values.{Text}
use Rattle.definitions.specs.Registries.{Request, Reply}
use Rattle.http_definitions.specs.Heads.{key_of}
use Rattle.http_definitions.specs.Routes.{request_of}
use Rattle.http_definitions.specs.Streams.{Message, close}
use Rattle.http_definitions.specs.ReplyTexts.{closing_text}
use Rattle.http_definitions.specs.Connections.{Answers, AnswersAsked, AnswersAll, reply_texts, Connection, Ends, Takes, last_words}
use Rattle.http_laws.specs.Spelling.{HasNoRequestWhole, SpellsAll}
use Rattle.http_laws.specs.Answering.{AnswerOnce, IsSameSoFar}
use Rattle.http_laws.proofs.SpelledOnce.{waiting_has_none, hopeless_has_none, spelled_once}
use Rattle.http_laws.proofs.Hopeless.{hopeless_has_bytes}

-- ---- the same requests
pub ended_has_none : (rest told : Text) (now : Connection) → Ends false rest told now → HasNoRequestWhole rest
ended_has_none rest told now e = elim e [
  | inl x ↦ waiting_has_none rest x.0
  | inr x ↦ hopeless_has_none rest x.0
]

all_spelled : {S : Type 0} (answers : Answers S) (bytes out : Text) (s t : S) (now : Connection) (x : Takes answers bytes s out now t)
    → SpellsAll bytes x.messages x.rest
all_spelled answers bytes out s t now x =
    (x.spelled, λ e. ended_has_none x.rest x.told now (subst (λ c. Ends c x.rest x.told now) e x.ends))

-- ---- the same replies
asked_once : {S : Type 0} (answers : Answers S) (key : Text) (o : Option Request) (s t u : S) (r p : Reply) → AnswerOnce answers
    → AnswersAsked answers key o s r t → AnswersAsked answers key o s p u → (r ≡ p) × (t ≡ u)
asked_once answers key None s t u r p once x y = (x.0 ∙ sym y.0, x.1 ∙ sym y.1)
asked_once answers key (Some q) s t u r p once x y = once key q s r p t u x y

pub replied_once : {S : Type 0} (answers : Answers S) (ms : List Message) (rs ps : List Reply) (s t u : S) → AnswerOnce answers
    → AnswersAll answers s ms rs t → AnswersAll answers s ms ps u → (rs ≡ ps) × (t ≡ u)
replied_once answers [] [] [] s t u once x y = (refl, x ∙ sym y)
replied_once answers [] [] (p ∷ ps) s t u once x y = absurd y
replied_once answers [] (r ∷ rs) ps s t u once x y = absurd x
replied_once answers (m ∷ ms) [] ps s t u once x y = absurd x
replied_once answers (m ∷ ms) (r ∷ rs) [] s t u once x y = absurd y
replied_once {S} answers (m ∷ ms) (r ∷ rs) (p ∷ ps) s t u once x y =
    let one = asked_once answers (key_of m.head) (request_of m.head m.body) s x.0 y.0 r p once x.1 y.1 in
    let rest = replied_once answers ms rs ps x.0 t u once x.2 (subst (λ (v : S). AnswersAll answers v ms ps u) (sym one.1) y.2) in
    (ap₂ (λ a b. a ∷ b) one.0 rest.0, rest.1)

-- ---- the same end
pub ends_alike : (c : Bool) (rest told other_told text : Text) (now other : Connection) → Ends c rest told now → Ends c rest other_told other
    → IsSameSoFar (text ++ told) now (text ++ other_told) other
ends_alike true rest told other_told text now other x y = inl (ap (λ t. text ++ t) (x.0 ∙ sym y.0), x.1 ∙ sym y.1)
ends_alike false rest told other_told text now other x y = elim x [
  | inl w ↦ elim y [
    | inl v ↦ inl (ap (λ t. text ++ t) (w.1 ∙ sym v.1), w.2 ∙ sym v.2)
    | inr v ↦ inr (inr (rest, w.2, v.2, longer other_told told v.1 w.1))
  ]
  | inr w ↦ elim y [
    | inl v ↦ inr (inl (rest, v.2, w.2, longer told other_told w.1 v.1))
    | inr v ↦ inl (ap (λ t. text ++ t) (w.1 ∙ sym v.1), w.2 ∙ sym v.2)
  ]
]
  where
    longer : (a b : Text) → a ≡ closing_text → b ≡ [] → text ++ a ≡ (text ++ b) ++ closing_text
    longer a b e f =
        ap (λ t. text ++ t) e ∙ ap (λ t. t ++ closing_text) (sym (append-nil text)) ∙ ap (λ t. (text ++ t) ++ closing_text) (sym f)

-- the same requests, replies, rest and state
one_taking : {S : Type 0} (answers : Answers S) (bytes out other_out : Text) (s t u : S) (now other : Connection) → AnswerOnce answers
    → (x : Takes answers bytes s out now t) (y : Takes answers bytes s other_out other u)
    → (x.messages ≡ y.messages) × (x.rest ≡ y.rest) × (x.replies ≡ y.replies) × (t ≡ u)
one_taking answers bytes out other_out s t u now other once x y =
    let spelled = spelled_once bytes x.messages y.messages x.rest y.rest
    (all_spelled answers bytes out s t now x) (all_spelled answers bytes other_out s u other y) in
    let replied = replied_once answers y.messages x.replies y.replies s t u once
    (subst (λ ms. AnswersAll answers s ms x.replies t) spelled.0 x.answered) y.answered in
    (spelled.0, spelled.1, replied.0, replied.1)

pub answered_once : {S : Type 0} (answers : Answers S) → AnswerOnce answers
    → (bytes : Text) (s t u : S) (out other_out : Text) (now other : Connection)
    → Takes answers bytes s out now t → Takes answers bytes s other_out other u
    → (t ≡ u) × IsSameSoFar out now other_out other
answered_once answers once bytes s t u out other_out now other x y =
    let one = one_taking answers bytes out other_out s t u now other once x y in
    let ends = subst (λ c. Ends c x.rest x.told now) (ap close one.0) x.ends in
    let same = ends_alike (close y.messages) y.rest x.told y.told (reply_texts y.messages y.replies) now other
    (subst (λ r. Ends (close y.messages) r x.told now) one.1 ends) y.ends in
    let texts : reply_texts x.messages x.replies ≡ reply_texts y.messages y.replies = ap₂ reply_texts one.0 one.2 in
    let first : out ≡ reply_texts y.messages y.replies ++ x.told = x.out_is ∙ ap (λ t. t ++ x.told) texts in
    (one.3, subst (λ o. IsSameSoFar out now o other) (sym y.out_is) (subst (λ o. IsSameSoFar o now (reply_texts y.messages y.replies ++ y.told) other) (sym first) same))

-- ---- the end of the stream
pub end_words : Bool → Text → Text
end_words true rest = []
end_words false [] = []
end_words false (b ∷ rest) = closing_text

-- what is told in all does not depend on when the connection was closed
pub ended_words : (c : Bool) (rest told : Text) (now : Connection) → Ends c rest told now → told ++ last_words now ≡ end_words c rest
unfolding end_words
ended_words true rest told now e = ap₂ (λ t n. t ++ last_words n) e.0 e.1
ended_words false [] told now e = elim e [
  | inl x ↦ ap₂ (λ t n. t ++ last_words n) x.1 x.2
  | inr x ↦ absurd (hopeless_has_bytes x.0)
]
ended_words false (b ∷ rest) told now e = elim e [
  | inl x ↦ ap₂ (λ t n. t ++ last_words n) x.1 x.2
  | inr x ↦ ap₂ (λ t n. t ++ last_words n) x.1 x.2 ∙ append-nil closing_text
]

ended_text : {S : Type 0} (answers : Answers S) (bytes out : Text) (s t : S) (now : Connection) (x : Takes answers bytes s out now t)
    → out ++ last_words now ≡ reply_texts x.messages x.replies ++ end_words (close x.messages) x.rest
ended_text answers bytes out s t now x =
    ap (λ o. o ++ last_words now) x.out_is
    ∙ append_assoc (reply_texts x.messages x.replies) x.told (last_words now)
    ∙ ap (λ w. reply_texts x.messages x.replies ++ w) (ended_words (close x.messages) x.rest x.told now x.ends)

pub ended_once : {S : Type 0} (answers : Answers S) → AnswerOnce answers
    → (bytes : Text) (s t u : S) (out other_out : Text) (now other : Connection)
    → Takes answers bytes s out now t → Takes answers bytes s other_out other u
    → out ++ last_words now ≡ other_out ++ last_words other
ended_once answers once bytes s t u out other_out now other x y =
    let one = one_taking answers bytes out other_out s t u now other once x y in
    let words : end_words (close x.messages) x.rest ≡ end_words (close y.messages) y.rest = ap₂ end_words (ap close one.0) one.1 in
    ended_text answers bytes out s t now x
    ∙ ap₂ (λ a b. a ++ b) (ap₂ reply_texts one.0 one.2) words
    ∙ sym (ended_text answers bytes other_out s u other y)
