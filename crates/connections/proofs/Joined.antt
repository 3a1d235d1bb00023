-- Parts of bytes, joined.
use Rattle.std.proofs.Common.{refl, sym, ap, ◌∙◌, subst, append_assoc, append-nil, take-add, drop-drop, length-drop, arith, inr}
use Rattle.std.specs.Prelude.{OnOk, OnErr, Result, Ok, Err, ◌≡◌, ◌≤◌, ◌+◌, ℕ, [], ◌++◌, length, take, drop}
use Rattle.std.proofs.lemmas.List.{take-append-drop}
use Rattle.definitions.specs.Registries.{Reply}
use Rattle.definitions.specs.Values.{Text}
use Rattle.http_definitions.specs.Connections.{Answers, Connection, holding}
use Rattle.http_laws.proofs.Pieces.{takes_on}
use Rattle.http_laws.proofs.Steps.{takes_line_ends}
use Rattle.http_definitions.specs.ReplyTexts.{reply_text}
use Rattle.faults.specs.declared.Fault.{Fault}
use Rattle.request_heads.specs.declared.headings.Heading.{Heading}
use Rattle.connections.specs.Phases.{IsHeld}
use Rattle.connections.specs.Progress.{Tells, TakesSome, AnswersAt, MayAnswer, Replies, IsTurn, IsEnd}
use Rattle.connections.specs.declared.phases.Phase.{Phase}
use Rattle.connections.specs.declared.turns.Turn.TheVariants.{Holds}
use Rattle.connections.specs.declared.taking.Ended.TheVariants as ended

-- nothing is taken yet
pub tells_nothing : {S : Type 0} (answers : Answers S) (s : S) (before : Text) → Tells answers [] s before (holding []) s before
tells_nothing answers s before = record { out = []; appended = sym (append-nil before); takes = takes_line_ends answers [] s refl }

pub takes_none : {S : Type 0} (answers : Answers S) (bytes : Text) (s : S) → TakesSome answers bytes s s
takes_none answers bytes s = record { front = []; more = bytes; whole = refl; out = []; now = holding []; takes = takes_line_ends answers [] s refl }

-- what was taken up to start, and then what stands behind
pub tells_on : {S : Type 0} (answers : Answers S) (a p : Text) (s t u : S) (before middle after : Text) (now : Connection)
    → Tells answers a s before (holding []) t middle → Tells answers p t middle now u after → Tells answers (a ++ p) s before now u after
tells_on answers a p s t u before middle after now x y = record {
  out = x.out ++ y.out;
  appended = y.appended ∙ ap (λ o. o ++ y.out) x.appended ∙ append_assoc before x.out y.out;
  takes = takes_on answers a p s t u x.out y.out [] now x.takes y.takes;
}

pub joined_took : {S : Type 0} (answers : Answers S) (bytes : Text) (start n : ℕ) (s t u : S) (before middle after : Text)
    → Tells answers (take start bytes) s before (holding []) t middle → Tells answers (take n (drop start bytes)) t middle (holding []) u after
    → Tells answers (take (start + n) bytes) s before (holding []) u after
joined_took answers bytes start n s t u before middle after x y =
    subst (λ b. Tells answers b s before (holding []) u after) (sym (take-add start n bytes)) (tells_on answers _ _ s t u before middle after _ x y)

pub joined_rest : {S : Type 0} (answers : Answers S) (bytes : Text) (start : ℕ) (s t u : S) (before middle after : Text) (now : Connection)
    → Tells answers (take start bytes) s before (holding []) t middle → Tells answers (drop start bytes) t middle now u after
    → Tells answers bytes s before now u after
joined_rest answers bytes start s t u before middle after now x y =
    subst (λ b. Tells answers b s before now u after) (take-append-drop start bytes) (tells_on answers _ _ s t u before middle after now x y)

pub joined_some : {S : Type 0} (answers : Answers S) (bytes : Text) (start : ℕ) (s t u : S) (before middle : Text)
    → Tells answers (take start bytes) s before (holding []) t middle → TakesSome answers (drop start bytes) t u → TakesSome answers bytes s u
joined_some answers bytes start s t u before middle x y = record {
  front = take start bytes ++ y.front;
  more = y.more;
  whole = sym (take-append-drop start bytes) ∙ ap (λ b. take start bytes ++ b) y.whole ∙ sym (append_assoc (take start bytes) y.front y.more);
  out = x.out ++ y.out;
  now = y.now;
  takes = takes_on answers (take start bytes) y.front s t u x.out y.out [] y.now x.takes y.takes;
}

-- the rest is held
pub joined_held : {S : Type 0} (answers : Answers S) (bytes : Text) (start n : ℕ) (p : Phase) (s t u : S) (before middle after : Text) → start ≤ length bytes
    → Tells answers (take start bytes) s before (holding []) t middle → IsTurn answers (drop start bytes) t middle (Holds n p) u after
    → IsEnd answers bytes s before (ended.Holds (start + n) p) u after
joined_held answers bytes start n p s t u before middle after within x y =
    let same : drop n (drop start bytes) ≡ drop (start + n) bytes = drop-drop n start bytes in (
      omega (arith, within, y.0, length-drop start bytes),
      subst (λ b. IsHeld b p) same y.1,
      subst (λ b. Tells answers bytes s before (holding b) u after) same (joined_rest answers bytes start s t u before middle after _ x y.2),
    )

-- ---- a reply that may not be told
pub told_if_ok : {S : Type 0} (answers : Answers S) (bytes : Text) (x : Heading) (s t : S) (r : Reply) (before after : Text) (result : Result (Unit {0}) Fault)
    → AnswersAt answers bytes x s r t → OnOk result (after ≡ before ++ reply_text x.is_last r) → OnOk result (Replies answers bytes x s before t after)
told_if_ok answers bytes x s t r before after (Ok u) answered told = record { reply = r; answered = answered; appended = told }
told_if_ok answers bytes x s t r before after (Err f) answered told = told

pub may_answer : {S : Type 0} (answers : Answers S) (bytes : Text) (x : Heading) (s t : S) (r : Reply) (result : Result (Unit {0}) Fault)
    → AnswersAt answers bytes x s r t → OnErr result (MayAnswer answers bytes x s t)
may_answer answers bytes x s t r (Ok u) answered = tt
may_answer answers bytes x s t r (Err f) answered = inr (r, answered)
