-- What one turn takes.
use Rattle.std.proofs.Common.{refl, sym, ap, ◌∙◌, subst, append-nil, take-add, arith, inl, inr, length-drop, length-append}
use Rattle.std.specs.Prelude.{◌≡◌, ◌≤◌, ◌+◌, ℕ, [], ◌++◌, Bool, true, false, length, take, drop}
use Rattle.std.proofs.lemmas.List.{take-append-drop}
use Rattle.httparse.specs.Grammar.{print_request, ReadsRequest}
use Rattle.definitions.specs.Values.{Text}
use Rattle.definitions.specs.Registries.{Reply}
use Rattle.http_definitions.specs.Heads.{is_last}
use Rattle.http_definitions.specs.Streams.{Message, BeginsWith, without_line_ends, IsHopeless, IsWaiting}
use Rattle.http_definitions.specs.ReplyTexts.{reply_text, closing_text}
use Rattle.http_definitions.specs.Connections.{Answers, holding, closed, Takes}
use Rattle.http_laws.proofs.HeadSizes.{take_whole}
use Rattle.http_laws.proofs.LineEnds.{dropped_all}
use Rattle.http_laws.proofs.Steps.{takes_waiting, takes_line_ends, takes_hopeless, takes_last, takes_one, takes_next}
use Rattle.request_heads.specs.declared.headings.Heading.{Heading}
use Rattle.request_heads.proofs.Limits.{whole_window}
use Rattle.connections.specs.Messages.{IsMessage, HasMessage}
use Rattle.connections.specs.Phases.{IsOn}
use Rattle.connections.specs.Progress.{TakesSome, Replies, MayAnswer, AnswersAt, IsTurn}
use Rattle.connections.specs.declared.phases.Phase.{Phase}
use Rattle.connections.specs.declared.turns.Turn.TheVariants.{Took, Holds, Closes}
use Rattle.connections.proofs.Joined.{takes_none}
use Rattle.connections.proofs.Skipped.{bare_take}
use Rattle.connections.proofs.Whole.{message_size, message_fits}

-- the line ends were skipped
pub record IsSkipped (bytes : Text) (n : ℕ) : Type 0 where
  pub within : n ≤ length bytes
  pub rest : drop n bytes ≡ without_line_ends bytes
  pub front : without_line_ends (take n bytes) ≡ []

bare_rest : (bytes : Text) (n : ℕ) → IsSkipped bytes n → without_line_ends (drop n bytes) ≡ drop n bytes
bare_rest bytes n x = ap without_line_ends x.rest ∙ dropped_all bytes ∙ sym x.rest

pub waits_turn : {S : Type 0} (answers : Answers S) (bytes : Text) (n : ℕ) (p : Phase) (s : S) (before : Text) → IsSkipped bytes n
    → IsOn (drop n bytes) p → IsWaiting (drop n bytes) → IsTurn answers bytes s before (Holds n p) s before
waits_turn answers bytes n p s before x on waits = (
  x.within,
  (bare_rest bytes n x, on),
  record { out = []; appended = sym (append-nil before); takes = takes_waiting answers bytes (drop n bytes) s x.rest waits },
)

pub hopeless_turn : {S : Type 0} (answers : Answers S) (bytes : Text) (n : ℕ) (s : S) (before after : Text) → IsSkipped bytes n
    → IsHopeless (drop n bytes) → after ≡ before ++ closing_text → IsTurn answers bytes s before Closes s after
hopeless_turn answers bytes n s before after x hopeless appended =
    record { out = closing_text; appended = appended; takes = takes_hopeless answers bytes (drop n bytes) s x.rest hopeless }

-- ---- a whole message
-- it alone stands in its window
message_alone : (front : Text) (x : Heading) (m : Message) → without_line_ends front ≡ front → IsMessage front x m
    → BeginsWith (without_line_ends (take (x.head_len + x.body_len) front)) m []
message_alone front x m bare is =
    let size = message_size front x m is in
    let n : x.head_len + x.body_len ≡ length (print_request m.head) + length m.body = omega (arith, size, is.heading.head_len) in
    let window = whole_window front m.head (m.body ++ is.more) (length m.body) is.begins.0.0 (omega (arith, length-append m.body is.more)) in
    let cut : take (x.head_len + x.body_len) front ≡ without_line_ends (take (x.head_len + x.body_len) front) = sym (bare_take front (x.head_len + x.body_len) bare) in
    let alone : ReadsRequest (take (x.head_len + x.body_len) front) m.head (m.body ++ []) =
    (window.0, ap (λ k. take k front) n ∙ window.1 ∙ ap (λ b. print_request m.head ++ (b ++ [])) (take_whole m.body is.more)) in
    ((subst (λ b. ReadsRequest b m.head (m.body ++ [])) cut alone, is.begins.0.1), is.begins.1)

-- it is taken where it isn't the last
takes_message : {S : Type 0} (answers : Answers S) (front : Text) (x : Heading) (s t : S) (r : Reply) → without_line_ends front ≡ front
    → HasMessage front x → x.is_last ≡ false → AnswersAt answers front x s r t
    → Takes answers (take (x.head_len + x.body_len) front) s (reply_text x.is_last r) (holding []) t
takes_message answers front x s t r bare h goes answered =
    let m = h.0 in
    let is = h.1 in
    let same : x.is_last ≡ is_last m.head = is.heading.is_last in
    subst (λ l. Takes answers (take (x.head_len + x.body_len) front) s (reply_text l r) (holding []) t) (sym same)
    (takes_one answers (take (x.head_len + x.body_len) front) m s t r (message_alone front x m bare is) (sym same ∙ goes) (answered m is))

-- .. with the line ends before it
takes_next_message : {S : Type 0} (answers : Answers S) (bytes : Text) (n : ℕ) (x : Heading) (s t : S) (r : Reply) → IsSkipped bytes n
    → HasMessage (drop n bytes) x → x.is_last ≡ false → AnswersAt answers (drop n bytes) x s r t
    → Takes answers (take (n + (x.head_len + x.body_len)) bytes) s (reply_text x.is_last r) (holding []) t
takes_next_message answers bytes n x s t r skipped h goes answered =
    subst (λ b. Takes answers b s (reply_text x.is_last r) (holding []) t) (sym (take-add n (x.head_len + x.body_len) bytes))
    (takes_next answers (take n bytes) (take (x.head_len + x.body_len) (drop n bytes)) s s t [] (reply_text x.is_last r) (holding [])
    (takes_line_ends answers (take n bytes) s skipped.front)
    (takes_message answers (drop n bytes) x s t r (bare_rest bytes n skipped) h goes answered))

-- all bytes are where it is the last
takes_last_message : {S : Type 0} (answers : Answers S) (bytes : Text) (n : ℕ) (x : Heading) (s t : S) (r : Reply) → IsSkipped bytes n
    → HasMessage (drop n bytes) x → x.is_last ≡ true → AnswersAt answers (drop n bytes) x s r t
    → Takes answers bytes s (reply_text x.is_last r) closed t
takes_last_message answers bytes n x s t r skipped h last answered =
    let m = h.0 in
    let is = h.1 in
    let same : x.is_last ≡ is_last m.head = is.heading.is_last in
    subst (λ l. Takes answers bytes s (reply_text l r) closed t) (sym same)
    (takes_last answers bytes m is.more s t r (subst (λ b. BeginsWith b m is.more) skipped.rest is.begins) (sym same ∙ last) (answered m is))

-- ---- the turn
pub took_turn : {S : Type 0} (answers : Answers S) (bytes : Text) (n : ℕ) (x : Heading) (s t : S) (before after : Text) → IsSkipped bytes n
    → HasMessage (drop n bytes) x → x.is_last ≡ false → Replies answers (drop n bytes) x s before t after
    → (k : ℕ) → k ≡ n + (x.head_len + x.body_len) → IsTurn answers bytes s before (Took k) t after
took_turn answers bytes n x s t before after skipped h goes replies k same =
    let fits = message_fits (drop n bytes) x h in (
      omega (arith, fits.0, same),
      omega (arith, fits.1, length-drop n bytes, skipped.within, same),
      record {
        out = reply_text x.is_last replies.reply;
        appended = replies.appended;
        takes = subst (λ i. Takes answers (take i bytes) s (reply_text x.is_last replies.reply) (holding []) t) (sym same)
            (takes_next_message answers bytes n x s t replies.reply skipped h goes replies.answered);
      },
    )

pub last_turn : {S : Type 0} (answers : Answers S) (bytes : Text) (n : ℕ) (x : Heading) (s t : S) (before after : Text) → IsSkipped bytes n
    → HasMessage (drop n bytes) x → x.is_last ≡ true → Replies answers (drop n bytes) x s before t after
    → IsTurn answers bytes s before Closes t after
last_turn answers bytes n x s t before after skipped h last replies = record {
  out = reply_text x.is_last replies.reply;
  appended = replies.appended;
  takes = takes_last_message answers bytes n x s t replies.reply skipped h last replies.answered;
}

some_answered : {S : Type 0} (answers : Answers S) (bytes : Text) (n : ℕ) (x : Heading) (s t : S) (r : Reply) → IsSkipped bytes n
    → HasMessage (drop n bytes) x → AnswersAt answers (drop n bytes) x s r t → (l : Bool) → x.is_last ≡ l → TakesSome answers bytes s t
some_answered answers bytes n x s t r skipped h answered true last = record {
  front = bytes;
  more = [];
  whole = sym (append-nil bytes);
  out = reply_text x.is_last r;
  now = closed;
  takes = takes_last_message answers bytes n x s t r skipped h last answered;
}
some_answered answers bytes n x s t r skipped h answered false goes = record {
  front = take (n + (x.head_len + x.body_len)) bytes;
  more = drop (n + (x.head_len + x.body_len)) bytes;
  whole = sym (take-append-drop (n + (x.head_len + x.body_len)) bytes);
  out = reply_text x.is_last r;
  now = holding [];
  takes = takes_next_message answers bytes n x s t r skipped h goes answered;
}

pub some_turn : {S : Type 0} (answers : Answers S) (bytes : Text) (n : ℕ) (x : Heading) (s t : S) → IsSkipped bytes n
    → HasMessage (drop n bytes) x → MayAnswer answers (drop n bytes) x s t → TakesSome answers bytes s t
some_turn answers bytes n x s t skipped h may = elim may [
  | inl same ↦ subst (λ u. TakesSome answers bytes s u) (sym same) (takes_none answers bytes s)
  | inr y ↦ some_answered answers bytes n x s t y.0 skipped h y.1 x.is_last refl
]
