-- One piece, read and answered.
use Rattle.std.proofs.Common.{◌≡◌, ◌<◌, ℕ, List, [], ◌∷◌, ◌++◌, true, false, Option, Some, None, Result, Ok, Err, take, length, refl, sym, ap, ◌∙◌, subst, append-nil, arith, inl, inr, true≢false}
use Rattle.definitions.specs.Values.{Text}
use Rattle.http_definitions.specs.Connections.{Answers, Connection, holding, closed, Takes}
use Rattle.connections.specs.Connected.{is_closed_at, IsFed}
use Rattle.faults.specs.declared.Fault.{Fault}
use Rattle.faults.specs.declared.Fault.TheVariants.{ReadFailed}
use Rattle.connections.specs.declared.handlers.Unsettled.{Unsettled}
use Rattle.connections.specs.Progress.{TakesSome}
use Rattle.serving.specs.Transfers.{Transfer}
use Rattle.serving.specs.declared.failure.Failure.{Failure}
use Rattle.serving.specs.declared.failure.Failure.TheVariants as failure
use Rattle.serving.specs.Writing.{Writes}
use Rattle.serving.specs.Exchanges.{Wire, wire, has_bytes, Tells, FailsSo}
use Rattle.serving.specs.Kept.{IsLeftBehind, IsLeft}
use Rattle.serving.specs.Turns.{AnswersBytes, IsPieceAnswered, Turns}
use Rattle.serving.specs.declared.pieces.Progress.TheVariants.{Goes, Ends}
use Rattle.serving.proofs.Exchanged.{last_read, piece_told, piece_broken}
use Rattle.serving.proofs.Written.{took_none}

pub some_bytes : (p : Text) → 0 < length p → has_bytes p ≡ true
some_bytes [] h = absurd (omega (arith, h))
some_bytes (b ∷ p) h = refl

-- a read that failed
pub read_failed : {S : Type 0} (answers : Answers S) (start : Wire S) (held : Text) (t : S) (reads writes more : List Transfer)
    → Tells answers start [] (holding held) (wire t reads writes) → more ≡ reads ++ (None ∷ []) → FailsSo answers start (failure.Fault ReadFailed) (wire t more writes)
read_failed answers start held t reads writes more x e = inl (refl, holding held, last_read answers start (holding held) t reads writes more None x e)

-- a read of no bytes
pub read_ends : {S : Type 0} (answers : Answers S) (start : Wire S) (held : Text) (t : S) (reads writes more : List Transfer) (n : ℕ) (buffer : Text)
    → Tells answers start [] (holding held) (wire t reads writes) → more ≡ reads ++ (Some (take n buffer) ∷ []) → n ≡ 0
    → Tells answers start (Some [] ∷ []) (holding held) (wire t more writes)
read_ends answers start held t reads writes more n buffer x e z =
    last_read answers start (holding held) t reads writes more (Some []) x (e ∙ ap (λ l. reads ++ (l ∷ [])) (took_none n buffer z))

answered_behind : {S : Type 0} (answers : Answers S) (held piece : Text) (c : Option Connection) (s : S) (before : List Transfer) (r : Result (Unit {0}) Failure) (d : Option Connection) (t : S) (after : List Transfer)
    → c ≡ Some (holding held) → IsPieceAnswered answers c piece s before r d t after → AnswersBytes answers (held ++ piece) s before r d t after
answered_behind answers held piece c s before r d t after e x = subst (λ k. IsPieceAnswered answers k piece s before r d t after) e x

-- a piece that isn't told whole
pub piece_failed : {S : Type 0} (answers : Answers S) (start : Wire S) (held piece : Text) (c d : Option Connection) (s t : S) (reads writes more others : List Transfer) (e : Failure)
    → c ≡ Some (holding held) → Tells answers start [] (holding held) (wire s reads writes) → has_bytes piece ≡ true → more ≡ reads ++ (Some piece ∷ [])
    → IsPieceAnswered answers c piece s writes (Err e) d t others → FailsSo answers start e (wire t more others)
piece_failed answers start held piece c d s t reads writes more others (failure.Unsettled why) at x h e y =
    let w = answered_behind answers held piece c s writes (Err (failure.Unsettled why)) d t others at y in
    record { middle = wire s reads writes; held = held; told = x; piece = piece; on = e; some = w.0; untold = w.1 }
piece_failed answers start held piece c d s t reads writes more others (failure.Fault f) at x h e y = elim (answered_behind answers held piece c s writes (Err (failure.Fault f)) d t others at y) [
  | inl w ↦ inr (inl (w.0, w.1, [], inl refl, piece_broken answers start held piece w.2 w.1 s t reads writes more others x h e w.3 w.4))
  | inr w ↦ inr (inr (w.0, inr (record { middle = wire s reads writes; held = held; told = x; piece = piece; on = e; some = w.1; untold = w.2 })))
]

-- one that closes the connection
pub piece_ends : {S : Type 0} (answers : Answers S) (start : Wire S) (held piece : Text) (c d : Option Connection) (s t : S) (reads writes more others : List Transfer)
    → c ≡ Some (holding held) → (x : Tells answers start [] (holding held) (wire s reads writes)) → has_bytes piece ≡ true → more ≡ reads ++ (Some piece ∷ [])
    → IsPieceAnswered answers c piece s writes (Ok tt) d t others → is_closed_at d ≡ true
    → Turns answers start (length x.0.pieces) (Ok Ends) d (wire t more others)
piece_ends {S} answers start held piece c d s t reads writes more others at x h e y shut =
    let a = answered_behind answers held piece c s writes (Ok tt) d t others at y in by a.0 a.1 a.2 a.3 a.4
  where
    by : (now : Connection) (out : Text) → d ≡ Some now → Takes answers (held ++ piece) s out now t → Writes writes out others
        → Turns answers start (length x.0.pieces) (Ok Ends) d (wire t more others)
    by (holding g) out is takes told = absurd (true≢false (sym shut ∙ ap is_closed_at is))
    by closed out is takes told =
        (closed, [], is, inr (refl, refl), (piece_told answers start held piece out closed s t reads writes more others x h e takes told).0)

-- one that leaves it open
pub piece_goes : {S : Type 0} (answers : Answers S) (start : Wire S) (held piece : Text) (c d : Option Connection) (s t : S) (reads writes more others : List Transfer)
    → c ≡ Some (holding held) → (x : Tells answers start [] (holding held) (wire s reads writes)) → has_bytes piece ≡ true → more ≡ reads ++ (Some piece ∷ [])
    → IsPieceAnswered answers c piece s writes (Ok tt) d t others → is_closed_at d ≡ false
    → Turns answers start (length x.0.pieces) (Ok Goes) d (wire t more others)
piece_goes {S} answers start held piece c d s t reads writes more others at x h e y open_yet =
    let a = answered_behind answers held piece c s writes (Ok tt) d t others at y in by a.0 a.1 a.2 a.3 a.4
  where
    by : (now : Connection) (out : Text) → d ≡ Some now → Takes answers (held ++ piece) s out now t → Writes writes out others
        → Turns answers start (length x.0.pieces) (Ok Goes) d (wire t more others)
    by closed out is takes told = absurd (true≢false (ap is_closed_at (sym is) ∙ open_yet))
    by (holding g) out is takes told =
        let on = piece_told answers start held piece out (holding g) s t reads writes more others x h e takes told in
        (g, is, on.0, on.1)

-- ---- what an opening may find then
pub piece_found : {S : Type 0} (answers : Answers S) (start : Wire S) (held piece : Text) (c d : Option Connection) (s t u : S) (reads writes more others : List Transfer) (e : Failure)
    → c ≡ Some (holding held) → Tells answers start [] (holding held) (wire s reads writes) → more ≡ reads ++ (Some piece ∷ [])
    → IsPieceAnswered answers c piece s writes (Err e) d t others → IsLeftBehind s e t u → IsLeft answers start e (wire t more others) u
piece_found answers start held piece c d s t u reads writes more others (failure.Fault f) at x e y found = found
piece_found answers start held piece c d s t u reads writes more others (failure.Unsettled why) at x e y found =
    let w = answered_behind answers held piece c s writes (Err (failure.Unsettled why)) d t others at y in
    elim found [
      | inl same ↦ inr (record { middle = wire s reads writes; held = held; told = x; piece = piece; on = e; some = w.0; untold = w.1 }, same)
      | inr same ↦ inl same
    ]

-- ---- a piece that couldn't be made durable
all_some : {S : Type 0} (answers : Answers S) (bytes out : Text) (now : Connection) (s t : S) → Takes answers bytes s out now t → TakesSome answers bytes s t
all_some answers bytes out now s t x = record { front = bytes; more = []; whole = sym (append-nil bytes); out = out; now = now; takes = x }

pub piece_unsettled : {S : Type 0} (answers : Answers S) (c d e : Option Connection) (piece out : Text) (s t u : S) (r : Result (Unit {0}) Fault) (before : List Transfer) (why : Unsettled)
    → IsFed answers c piece s r out d t → u ≡ t → IsPieceAnswered answers c piece s before (Err (failure.Unsettled why)) e u before
piece_unsettled answers None d e piece out s t u r before why x same = tt
piece_unsettled answers (Some closed) d e piece out s t u r before why x same = tt
piece_unsettled answers (Some (holding held)) d e piece out s t u (Ok v) before why x same =
    (all_some answers (held ++ piece) out x.0 s u (subst (λ w. Takes answers (held ++ piece) s out x.0 w) (sym same) x.2), refl)
piece_unsettled answers (Some (holding held)) d e piece out s t u (Err f) before why x same =
    (subst (λ w. TakesSome answers (held ++ piece) s w) (sym same) x.2, refl)
