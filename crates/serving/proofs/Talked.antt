-- Connections that are served one after the other are events.
use Rattle.std.proofs.Common.{◌≡◌, ◌≢◌, ◌⊎◌, ◌≤◌, ◌<◌, ◌+◌, ℕ, List, Option, [], ◌∷◌, ◌++◌, ◌==◌, Bool, true, false, cond, None, Some, Result, Ok, Err, map, refl, sym, ap, ap₂, ◌∙◌, subst, append_assoc, append-nil, arith, inl, inr, eqb-true, eq-eqb}
use Rattle.std.specs.Prelude.{IsOk}
use Rattle.std.specs.List.{concat}
use Rattle.std.proofs.lemmas.List.{append_cancel_left}
use Rattle.definitions.specs.Values.{Text}
use Rattle.http_definitions.specs.Connections.{Answers, Connection, holding, Takes, last_words}
use Rattle.faults.specs.declared.Fault.{Fault}
use Rattle.faults.specs.declared.Fault.TheVariants.{ReadFailed}
use Rattle.connections.specs.declared.handlers.Unsettled.{Unsettled}
use Rattle.connections.specs.Found.{FindsOnly}
use Rattle.connections.specs.Events.{Change, opens, feeds, stops, ends, breaks, Event, Standing, unopened, served, short, ended, lost, IsChange, Happen, none_is_open, piece_in, bytes_in, stream_of, sent_to}
use Rattle.connections.proofs.Standings.{put_at, put_here, put_elsewhere, streams_on, sent_on}
use Rattle.serving.specs.Transfers.{Transfer, transferred_bytes}
use Rattle.serving.specs.declared.failure.Failure.{Failure}
use Rattle.serving.specs.declared.failure.Failure.TheVariants as failure
use Rattle.serving.specs.Writing.{Writes, IsBroken}
use Rattle.serving.specs.Exchanges.{Wire, wire, Reads, Tells, TellsAll, TellsSome, LeavesUntold, IsLast, HasEnded, BreaksOff, FailsSo}
use Rattle.serving.specs.Kept.{IsFound}
use Rattle.serving.specs.Serving.{IsServed}
use Rattle.serving.specs.Talks.{Talk, IsTalk, IsLetGo, AreServed, IsFoundBehindTalk, IsTalkKept, Carries, CarryAll}
use Rattle.serving.proofs.Written.{took_nothing, took_some}

-- ---- events
abbrev on : ℕ → Change → Event
on n change = record { connection = n; change = change }

happens_on : {S : Type 0} (answers : Answers S) (n : ℕ) (change : Change) (c d : Standing) (at : ℕ → Standing) (s t u : S) (es : List Event) (now : ℕ → Standing)
    → at n ≡ c → IsChange answers c s change d t → Happen answers (put_at n d at) t es now u → Happen answers at s (on n change ∷ es) now u
happens_on answers n change c d at s t u es now is x rest = (
  put_at n d at,
  t,
  subst (λ e. IsChange answers e s change (put_at n d at n) t) (sym is) (subst (λ e. IsChange answers c s change e t) (sym (put_here n d at)) x),
  λ k other. put_elsewhere n k d at other,
  rest,
)

-- ---- events of one connection
-- all are on one connection
abbrev AreOn : ℕ → List Change → List Event
AreOn n = map (on n)

pieces_in : List Change → Text
pieces_in [] = []
pieces_in (x ∷ xs) = piece_in x ++ pieces_in xs

all_bytes_in : List Change → Text
all_bytes_in [] = []
all_bytes_in (x ∷ xs) = bytes_in x ++ all_bytes_in xs

own_stream : (n : ℕ) (xs : List Change) → stream_of n (AreOn n xs) ≡ pieces_in xs
unfolding pieces_in
own_stream n [] = refl
own_stream n (x ∷ xs) =
    ap (λ b. cond b (piece_in x ++ stream_of n (AreOn n xs)) (stream_of n (AreOn n xs))) (eq-eqb n n refl) ∙ ap (λ t. piece_in x ++ t) (own_stream n xs)

own_sent : (n : ℕ) (xs : List Change) → sent_to n (AreOn n xs) ≡ all_bytes_in xs
unfolding all_bytes_in
own_sent n [] = refl
own_sent n (x ∷ xs) =
    ap (λ b. cond b (bytes_in x ++ sent_to n (AreOn n xs)) (sent_to n (AreOn n xs))) (eq-eqb n n refl) ∙ ap (λ t. bytes_in x ++ t) (own_sent n xs)

differs : (k n : ℕ) → k ≢ n → (k == n) ≡ false
differs k n other = by (k == n) refl
  where
    by : (b : Bool) → (k == n) ≡ b → b ≡ false
    by true e = absurd (other (eqb-true k n e))
    by false e = refl

other_stream : (k n : ℕ) (xs : List Change) → k ≢ n → stream_of k (AreOn n xs) ≡ []
other_stream k n [] other = refl
other_stream k n (x ∷ xs) other =
    ap (λ b. cond b (piece_in x ++ stream_of k (AreOn n xs)) (stream_of k (AreOn n xs))) (differs k n other) ∙ other_stream k n xs other

other_sent : (k n : ℕ) (xs : List Change) → k ≢ n → sent_to k (AreOn n xs) ≡ []
other_sent k n [] other = refl
other_sent k n (x ∷ xs) other =
    ap (λ b. cond b (bytes_in x ++ sent_to k (AreOn n xs)) (sent_to k (AreOn n xs))) (differs k n other) ∙ other_sent k n xs other

-- ---- one connection
record IsCarried {S : Type 0} (answers : Answers S) (n : ℕ) (at : ℕ → Standing) (s : S) (x : Talk) (t : S) : Type 0 where
  changes : List Change
  now : ℕ → Standing
  others : (k : ℕ) → k ≢ n → now k ≡ at k
  happened : (fs : List Event) (later : ℕ → Standing) (u : S) → Happen answers now t fs later u → Happen answers at s (AreOn n changes ++ fs) later u
  carried : Carries (pieces_in changes) (all_bytes_in changes) x

-- what was read
read_bytes : (ps : List Text) (last : List Transfer) → transferred_bytes (map (λ p. Some p) ps ++ last) ≡ concat ps ++ transferred_bytes last
read_bytes [] last = refl
read_bytes (p ∷ ps) last = ap (λ t. p ++ t) (read_bytes ps last) ∙ sym (append_assoc p (concat ps) (transferred_bytes last))

heard_of : (reads read last : List Transfer) (ps : List Text) → reads ++ read ≡ reads ++ (map (λ p. Some p) ps ++ last)
    → transferred_bytes read ≡ concat ps ++ transferred_bytes last
heard_of reads read last ps e = ap transferred_bytes (append_cancel_left reads read _ e) ∙ read_bytes ps last

-- an event more, behind which nothing is known of the other connections
then : {S : Type 0} (answers : Answers S) (n : ℕ) (at : ℕ → Standing) (s t u : S) (piece out : Text) (c : Connection) → at n ≡ unopened → Takes answers piece s out c t
    → (fs : List Event) (later : ℕ → Standing) → Happen answers (put_at n (served c) (put_at n (served (holding [])) at)) t fs later u
    → Happen answers at s (on n opens ∷ (on n (feeds piece out) ∷ fs)) later u
then answers n at s t u piece out c is takes fs later rest =
    happens_on answers n opens unopened (served (holding [])) at s s u (on n (feeds piece out) ∷ fs) later is (refl, refl)
    (happens_on answers n (feeds piece out) (served (holding [])) (served c) (put_at n (served (holding [])) at) s t u fs later (put_here n (served (holding [])) at) (c, refl, takes) rest)

-- one of which all that was read was taken
taken_talk : {S : Type 0} (answers : Answers S) (n : ℕ) (at : ℕ → Standing) (s t : S) (x : Talk) (reads writes others : List Transfer) (c : Connection) (last : List Transfer)
    (y : Reads answers (wire s reads writes) last c (wire t (reads ++ x.read) others)) (change : Change) (d : Standing)
    → at n ≡ unopened → transferred_bytes last ≡ [] → IsChange answers (served c) t change d t → piece_in change ≡ []
    → (unwritten : Text) × ((y.out ++ bytes_in change ≡ transferred_bytes x.wrote ++ unwritten) × (IsOk x.result → unwritten ≡ []))
    → IsCarried answers n at s x t
unfolding pieces_in all_bytes_in
taken_talk answers n at s t x reads writes others c last y change d is quiet changes silent told = record {
  changes = opens ∷ (feeds (concat y.pieces) y.out ∷ (change ∷ []));
  now = put_at n d (put_at n (served c) (put_at n (served (holding [])) at));
  others = λ k other. put_elsewhere n k d _ other ∙ put_elsewhere n k (served c) _ other ∙ put_elsewhere n k (served (holding [])) at other;
  happened = λ fs later u rest. then answers n at s t u (concat y.pieces) y.out c is y.takes (on n change ∷ fs) later
      (happens_on answers n change (served c) d (put_at n (served c) (put_at n (served (holding [])) at)) t t u fs later (put_here n (served c) _) changes rest);
  carried = record {
    heard = ap (λ p. concat y.pieces ++ (p ++ [])) silent ∙ sym (heard_of reads x.read last y.pieces y.on ∙ ap (λ q. concat y.pieces ++ q) quiet);
    unwritten = told.0;
    told = ap (λ b. y.out ++ b) (append-nil (bytes_in change)) ∙ told.1.0;
    whole = told.1.1;
  };
}

-- .. and what was to be sent is written, up to what is told at the end
wrote_of : (writes wrote : List Transfer) (bytes : Text) → Writes writes bytes (writes ++ wrote) → bytes ≡ transferred_bytes wrote
wrote_of writes wrote bytes w = sym (ap transferred_bytes (append_cancel_left writes wrote w.writes w.on) ∙ w.whole)

broken_bytes : (ts : List Transfer) (t : Transfer) → IsBroken t → transferred_bytes (ts ++ (t ∷ [])) ≡ transferred_bytes ts
broken_bytes ts t b = elim b [
  | inl e ↦ ap (λ u. transferred_bytes (ts ++ (u ∷ []))) e ∙ took_nothing ts
  | inr e ↦ ap (λ u. transferred_bytes (ts ++ (u ∷ []))) e ∙ took_some ts [] ∙ append-nil (transferred_bytes ts)
]

last_quiet : (last : List Transfer) → IsLast last → transferred_bytes last ≡ []
last_quiet last x = elim x [
  | inl e ↦ ap transferred_bytes e
  | inr e ↦ ap transferred_bytes e
]

ended_quiet : (last : List Transfer) (c : Connection) → HasEnded last c → transferred_bytes last ≡ []
ended_quiet last c x = elim x [
  | inl e ↦ ap transferred_bytes e
  | inr e ↦ ap transferred_bytes e.0
]

refused : (x : Talk) (f : Failure) (rest : Text) → x.result ≡ Err f → IsOk x.result → rest ≡ []
refused x f rest e ok = cc (subst (λ r. IsOk r) e ok)

told_talk : {S : Type 0} (answers : Answers S) (n : ℕ) (at : ℕ → Standing) (s t : S) (x : Talk) (reads writes : List Transfer) (c : Connection) (last : List Transfer) (f : Failure)
    → at n ≡ unopened → transferred_bytes last ≡ [] → x.result ≡ Err f
    → Tells answers (wire s reads writes) last c (wire t (reads ++ x.read) (writes ++ x.wrote)) → IsCarried answers n at s x t
told_talk answers n at s t x reads writes c last f is quiet e y =
    taken_talk answers n at s t x reads writes (writes ++ x.wrote) c last y.0 breaks lost is quiet (refl, refl) refl
    ([], (ap (λ b. b ++ []) (wrote_of writes x.wrote y.0.out y.1), λ ok. refl))

whole_talk : {S : Type 0} (answers : Answers S) (n : ℕ) (at : ℕ → Standing) (s t : S) (x : Talk) (reads writes : List Transfer) (c : Connection) (last : List Transfer)
    → at n ≡ unopened → HasEnded last c → TellsAll answers (wire s reads writes) last c (wire t (reads ++ x.read) (writes ++ x.wrote)) → IsCarried answers n at s x t
whole_talk answers n at s t x reads writes c last is ended_so y =
    taken_talk answers n at s t x reads writes (writes ++ x.wrote) c last y.0 (ends (last_words c)) ended is (ended_quiet last c ended_so) (refl, refl, refl) refl
    ([], (wrote_of writes x.wrote (y.0.out ++ last_words c) y.1 ∙ sym (append-nil (transferred_bytes x.wrote)), λ ok. refl))

broken_talk : {S : Type 0} (answers : Answers S) (n : ℕ) (at : ℕ → Standing) (s t : S) (x : Talk) (reads writes : List Transfer) (c : Connection) (last : List Transfer) (f : Failure)
    → at n ≡ unopened → IsLast last → x.result ≡ Err f → TellsSome answers (wire s reads writes) last c (wire t (reads ++ x.read) (writes ++ x.wrote))
    → IsCarried answers n at s x t
broken_talk answers n at s t x reads writes c last f is ended_so e y =
    let wrote : x.wrote ≡ y.1.writes ++ (y.1.last ∷ []) = append_cancel_left writes x.wrote _ y.1.on in
    let bytes : transferred_bytes x.wrote ≡ transferred_bytes y.1.writes = ap transferred_bytes wrote ∙ broken_bytes y.1.writes y.1.last y.1.broken in
    taken_talk answers n at s t x reads writes (writes ++ x.wrote) c last y.0 (ends (last_words c)) ended is (last_quiet last ended_so) (refl, refl, refl) refl
    (y.1.rest, (y.1.part ∙ ap (λ b. b ++ y.1.rest) (sym bytes), refused x f y.1.rest e))

stopped_heard : (reads read middle : List Transfer) (piece : Text) (ps : List Text) → middle ≡ reads ++ (map (λ p. Some p) ps ++ []) → reads ++ read ≡ middle ++ (Some piece ∷ [])
    → transferred_bytes read ≡ concat ps ++ piece
stopped_heard reads read middle piece ps e f =
    let on_all : reads ++ read ≡ reads ++ (map (λ p. Some p) ps ++ (Some piece ∷ [])) =
    f ∙ ap (λ m. m ++ (Some piece ∷ [])) (e ∙ ap (λ l. reads ++ l) (append-nil _)) ∙ append_assoc reads (map (λ p. Some p) ps) (Some piece ∷ []) in
    heard_of reads read (Some piece ∷ []) ps on_all ∙ ap (λ p. concat ps ++ p) (append-nil piece)

stopped_wrote : (writes wrote middle : List Transfer) (out : Text) → Writes writes out middle → writes ++ wrote ≡ middle → out ≡ transferred_bytes wrote
stopped_wrote writes wrote middle out w e = wrote_of writes wrote out (subst (λ m. Writes writes out m) (sym e) w)

short_talk : {S : Type 0} (answers : Answers S) (n : ℕ) (at : ℕ → Standing) (s t : S) (x : Talk) (reads writes : List Transfer)
    → at n ≡ unopened → LeavesUntold answers (wire s reads writes) (wire t (reads ++ x.read) (writes ++ x.wrote)) → IsCarried answers n at s x t
unfolding pieces_in all_bytes_in
short_talk answers n at s t x reads writes is y =
    let ps = y.told.0.pieces in
    let out = y.told.0.out in
    let held = served (holding y.held) in
    let first = put_at n held (put_at n (served (holding [])) at) in
    record {
      changes = opens ∷ (feeds (concat ps) out ∷ (stops y.piece ∷ (breaks ∷ [])));
      now = put_at n lost (put_at n short first);
      others = λ k other. put_elsewhere n k lost _ other ∙ put_elsewhere n k short first other ∙ put_elsewhere n k held _ other ∙ put_elsewhere n k (served (holding [])) at other;
      happened = λ fs later u rest. then answers n at s y.middle.handler u (concat ps) out (holding y.held) is y.told.0.takes (on n (stops y.piece) ∷ (on n breaks ∷ fs)) later
          (happens_on answers n (stops y.piece) held short first y.middle.handler t u (on n breaks ∷ fs) later (put_here n held _) (refl, y.some)
          (happens_on answers n breaks short lost (put_at n short first) t t u fs later (put_here n short first) (refl, refl) rest));
      carried = record {
        heard = ap (λ p. concat ps ++ p) (append-nil y.piece) ∙ sym (stopped_heard reads x.read y.middle.reads y.piece ps y.told.0.on y.on);
        unwritten = [];
        told = ap (λ b. b ++ []) (stopped_wrote writes x.wrote y.middle.writes out y.told.1 y.untold);
        whole = λ ok. refl;
      };
    }

-- one that isn't served
let_go_talk : {S : Type 0} (answers : Answers S) (n : ℕ) (at : ℕ → Standing) (s t : S) (x : Talk) → IsLetGo s x t → IsCarried answers n at s x t
unfolding pieces_in all_bytes_in
let_go_talk {S} answers n at s t x y = record {
  changes = [];
  now = at;
  others = λ k other. refl;
  happened = λ fs later u rest. subst (λ (v : S). Happen answers at v fs later u) y.3 rest;
  carried = record {
    heard = sym (ap transferred_bytes y.0);
    unwritten = [];
    told = sym (ap (λ ts. transferred_bytes ts ++ []) y.1);
    whole = λ ok. refl;
  };
}

fault_talk : {S : Type 0} (answers : Answers S) (n : ℕ) (at : ℕ → Standing) (s t : S) (x : Talk) (reads writes : List Transfer) (f : Fault)
    → at n ≡ unopened → x.result ≡ Err (failure.Fault f) → BreaksOff answers (wire s reads writes) f (wire t (reads ++ x.read) (writes ++ x.wrote)) → IsCarried answers n at s x t
fault_talk answers n at s t x reads writes f is e y = elim y [
  | inl w ↦ told_talk answers n at s t x reads writes w.1 (None ∷ []) _ is refl e w.2
  | inr v ↦ elim v [
    | inl w ↦ broken_talk answers n at s t x reads writes w.1 w.2 _ is w.3 e w.4
    | inr w ↦ elim w.1 [
      | inl z ↦ told_talk answers n at s t x reads writes z.0 z.1 _ is (last_quiet z.1 z.2) e z.3
      | inr z ↦ short_talk answers n at s t x reads writes is z
    ]
  ]
]

cut_talk : {S : Type 0} (answers : Answers S) (n : ℕ) (at : ℕ → Standing) (s t : S) (x : Talk) (reads writes : List Transfer) (f : Failure)
    → at n ≡ unopened → x.result ≡ Err f → FailsSo answers (wire s reads writes) f (wire t (reads ++ x.read) (writes ++ x.wrote)) → IsCarried answers n at s x t
cut_talk answers n at s t x reads writes (failure.Fault f) is e y = fault_talk answers n at s t x reads writes f is e y
cut_talk answers n at s t x reads writes (failure.Unsettled why) is e y = short_talk answers n at s t x reads writes is y

served_talk : {S : Type 0} (answers : Answers S) (n : ℕ) (at : ℕ → Standing) (s t : S) (x : Talk) (reads writes : List Transfer) (r : Result (Unit {0}) Failure)
    → at n ≡ unopened → x.result ≡ r → IsServed answers None (wire s reads writes) r (wire t (reads ++ x.read) (writes ++ x.wrote)) → IsCarried answers n at s x t
served_talk answers n at s t x reads writes (Ok u) is e y = whole_talk answers n at s t x reads writes y.0 y.1 is y.2 y.3
served_talk answers n at s t x reads writes (Err f) is e y = elim y [
  | inl w ↦ cut_talk answers n at s t x reads writes f is e w
  | inr w ↦ told_talk answers n at s t x reads writes w.1.0 [] f is refl e w.1.1
]

one_talk : {S : Type 0} (answers : Answers S) (n : ℕ) (at : ℕ → Standing) (s t : S) (x : Talk) → at n ≡ unopened → IsTalk answers s x t ⊎ IsLetGo s x t
    → IsCarried answers n at s x t
one_talk answers n at s t x is y = elim y [
  | inl w ↦ served_talk answers n at s t x w.0 w.1 x.result is refl w.2
  | inr w ↦ let_go_talk answers n at s t x w
]

-- ---- all connections
carry_on : (n m : ℕ) (cs : List Change) (fs : List Event) (xs : List Talk) → n < m → CarryAll m fs xs → CarryAll m (AreOn n cs ++ fs) xs
carry_on n m cs fs [] h c = tt
carry_on n m cs fs (x ∷ xs) h c =
    let other : m ≢ n = λ e. omega (arith, e, h) in
    let stream : stream_of m (AreOn n cs ++ fs) ≡ stream_of m fs = streams_on m (AreOn n cs) fs ∙ ap (λ t. t ++ stream_of m fs) (other_stream m n cs other) in
    let sent : sent_to m (AreOn n cs ++ fs) ≡ sent_to m fs = sent_on m (AreOn n cs) fs ∙ ap (λ t. t ++ sent_to m fs) (other_sent m n cs other) in (
      subst (λ t. Carries t (sent_to m (AreOn n cs ++ fs)) x) (sym stream) (subst (λ t. Carries (stream_of m fs) t x) (sym sent) c.0),
      carry_on n (m + 1) cs fs xs (omega (arith, h)) c.1,
    )

-- these connections from n on happen, and nothing happens on those before
record AreCarried {S : Type 0} (answers : Answers S) (n : ℕ) (at : ℕ → Standing) (s : S) (xs : List Talk) (t : S) : Type 0 where
  events : List Event
  now : ℕ → Standing
  happened : Happen answers at s events now t
  before : (k : ℕ) → k < n → (stream_of k events ≡ []) × (sent_to k events ≡ [])
  carried : CarryAll n events xs

all_talks : {S : Type 0} (answers : Answers S) (n : ℕ) (at : ℕ → Standing) (s t : S) (xs : List Talk) → ((k : ℕ) → n ≤ k → at k ≡ unopened) → AreServed answers s xs t
    → AreCarried answers n at s xs t
all_talks answers n at s t [] free x = record { events = []; now = at; happened = (λ k. refl, x); before = λ k h. (refl, refl); carried = tt }
all_talks answers n at s t (x ∷ xs) free y =
    let one = one_talk answers n at s y.0 x (free n (omega arith)) y.1 in
    let free_on : (k : ℕ) → n + 1 ≤ k → one.now k ≡ unopened = λ k h. one.others k (λ e. omega (arith, e, h)) ∙ free k (omega (arith, h)) in
    let rest = all_talks answers (n + 1) one.now y.0 t xs free_on y.2 in
    let own = rest.before n (omega arith) in
    let stream : stream_of n (AreOn n one.changes ++ rest.events) ≡ pieces_in one.changes =
    streams_on n (AreOn n one.changes) rest.events ∙ ap₂ (λ a b. a ++ b) (own_stream n one.changes) own.0 ∙ append-nil (pieces_in one.changes) in
    let sent : sent_to n (AreOn n one.changes ++ rest.events) ≡ all_bytes_in one.changes =
    sent_on n (AreOn n one.changes) rest.events ∙ ap₂ (λ a b. a ++ b) (own_sent n one.changes) own.1 ∙ append-nil (all_bytes_in one.changes) in
    record {
      events = AreOn n one.changes ++ rest.events;
      now = rest.now;
      happened = one.happened rest.events rest.now t rest.happened;
      before = λ k h.
          let other : k ≢ n = λ e. omega (arith, e, h) in
          let later = rest.before k (omega (arith, h)) in (
            streams_on k (AreOn n one.changes) rest.events ∙ ap₂ (λ a b. a ++ b) (other_stream k n one.changes other) later.0,
            sent_on k (AreOn n one.changes) rest.events ∙ ap₂ (λ a b. a ++ b) (other_sent k n one.changes other) later.1,
          );
      carried = (
        subst (λ u. Carries u (sent_to n (AreOn n one.changes ++ rest.events)) x) (sym stream) (subst (λ u. Carries (pieces_in one.changes) u x) (sym sent) one.carried),
        carry_on n (n + 1) one.changes rest.events xs (omega arith) rest.carried,
      );
    }

-- what happened on new connections, and that it carries what was read and written
pub talks_happen : {S : Type 0} (answers : Answers S) (s t : S) (xs : List Talk) → AreServed answers s xs t
    → (es : List Event) × (now : ℕ → Standing) × Happen answers none_is_open s es now t × CarryAll 0 es xs
talks_happen answers s t xs x =
    let all = all_talks answers 0 none_is_open s t xs (λ k h. refl) x in
    (all.events, all.now, all.happened, all.carried)

-- one more
pub served_more : {S : Type 0} (answers : Answers S) (s t u : S) (xs : List Talk) (x : Talk) → AreServed answers s xs t → IsTalk answers t x u ⊎ IsLetGo t x u
    → AreServed answers s (xs ++ x ∷ []) u
served_more {S} answers s t u [] x all one = (u, subst (λ (v : S). IsTalk answers v x u ⊎ IsLetGo v x u) all one, refl)
served_more answers s t u (y ∷ xs) x all one = (all.0, all.1, served_more answers all.0 t u xs x all.2 one)

-- what a new connection came to
pub talk_of : {H S : Type 0} (state : H → S) (finds : H → S → Type 0) (answers : Answers S) (c : Option Connection) (s t : H) (r : Result (Unit {0}) Failure) (reads writes more others : List Transfer)
    → c ≡ None → reads ≡ [] → writes ≡ [] → IsServed answers c (wire (state s) reads writes) r (wire (state t) more others)
    → (FindsOnly finds s (state s) → (f : S) → finds t f → IsFound answers (wire (state s) reads writes) r (wire (state t) more others) f)
    → (x : Talk) × (x.result ≡ r) × IsTalkKept state finds answers s x t
talk_of state finds answers c s t r reads writes more others none no_reads no_writes y found = (
  record { read = more; wrote = others; result = r },
  refl,
  record {
    served = inl (
      [],
      [],
      subst (λ d. IsServed answers d (wire (state s) [] []) r (wire (state t) more others)) none
          (subst (λ rs. IsServed answers c (wire (state s) rs []) r (wire (state t) more others)) no_reads
          (subst (λ ws. IsServed answers c (wire (state s) reads ws) r (wire (state t) more others)) no_writes y)),
    );
    found = λ clean f h. (
      [],
      [],
      subst (λ rs. IsFound answers (wire (state s) rs []) r (wire (state t) more others) f) no_reads
          (subst (λ ws. IsFound answers (wire (state s) reads ws) r (wire (state t) more others) f) no_writes (found clean f h)),
    );
  },
)

-- .. one that can't be read at all
pub let_go_of : {H S : Type 0} (state : H → S) (finds : H → S → Type 0) (answers : Answers S) (s : H)
    → (x : Talk) × (x.result ≡ Err (failure.Fault ReadFailed)) × IsTalkKept state finds answers s x s
let_go_of state finds answers s = (
  record { read = []; wrote = []; result = Err (failure.Fault ReadFailed) },
  refl,
  record { served = inr (refl, refl, refl, refl); found = λ clean f h. ([], [], clean f h) },
)

-- one that was settled
is_settled : {S : Type 0} (answers : Answers S) (before after : Wire S) (r : Result (Unit {0}) Failure) (f : S) → ((why : Unsettled) → ¬ (r ≡ Err (failure.Unsettled why)))
    → IsFound answers before r after f → f ≡ after.handler
is_settled answers before after (Ok u) f settled x = x
is_settled answers before after (Err (failure.Fault g)) f settled x = x
is_settled answers before after (Err (failure.Unsettled why)) f settled x = absurd (settled why refl)

pub found_settled : {S : Type 0} (answers : Answers S) (s t f : S) (x : Talk) → ((why : Unsettled) → ¬ (x.result ≡ Err (failure.Unsettled why)))
    → IsFoundBehindTalk answers s x t f → f ≡ t
found_settled answers s t f x settled y = is_settled answers (wire s y.0 y.1) (wire t (y.0 ++ x.read) (y.1 ++ x.wrote)) x.result f settled y.2

-- one that wasn't is no one that was let go
pub talk_unsettled : {S : Type 0} (answers : Answers S) (s t : S) (x : Talk) (why : Unsettled) → x.result ≡ Err (failure.Unsettled why)
    → IsTalk answers s x t ⊎ IsLetGo s x t → IsTalk answers s x t
talk_unsettled answers s t x why e (inl y) = y
talk_unsettled answers s t x why e (inr y) = absurd (cc (sym e ∙ y.2))

-- ---- what was moved
abbrev pub GoesOn : List Transfer → List Transfer → Type 0
GoesOn before after = (ts : List Transfer) × (after ≡ before ++ ts)

goes_on : (a b c : List Transfer) → GoesOn a b → GoesOn b c → GoesOn a c
goes_on a b c x y = (x.0 ++ y.0, y.1 ∙ ap (λ ts. ts ++ y.0) x.1 ∙ append_assoc a x.0 y.0)

lacking_transfers : {S : Type 0} (answers : Answers S) (before after : Wire S) → LeavesUntold answers before after
    → GoesOn before.reads after.reads × GoesOn before.writes after.writes
lacking_transfers answers before after x = (
  goes_on before.reads x.middle.reads after.reads (map (λ p. Some p) x.told.0.pieces ++ [], x.told.0.on) (Some x.piece ∷ [], x.on),
  (x.told.1.writes, x.untold ∙ x.told.1.on),
)

fault_transfers : {S : Type 0} (answers : Answers S) (before after : Wire S) (f : Fault) → BreaksOff answers before f after
    → GoesOn before.reads after.reads × GoesOn before.writes after.writes
fault_transfers answers before after f x = elim x [
  | inl w ↦ ((map (λ p. Some p) w.2.0.pieces ++ (None ∷ []), w.2.0.on), (w.2.1.writes, w.2.1.on))
  | inr v ↦ elim v [
    | inl w ↦ ((map (λ p. Some p) w.4.0.pieces ++ w.2, w.4.0.on), (w.4.1.writes ++ (w.4.1.last ∷ []), w.4.1.on))
    | inr w ↦ elim w.1 [
      | inl z ↦ ((map (λ p. Some p) z.3.0.pieces ++ z.1, z.3.0.on), (z.3.1.writes, z.3.1.on))
      | inr z ↦ lacking_transfers answers before after z
    ]
  ]
]

cut_transfers : {S : Type 0} (answers : Answers S) (before after : Wire S) (f : Failure) → FailsSo answers before f after
    → GoesOn before.reads after.reads × GoesOn before.writes after.writes
cut_transfers answers before after (failure.Fault f) x = fault_transfers answers before after f x
cut_transfers answers before after (failure.Unsettled why) x = lacking_transfers answers before after x

pub served_transfers : {S : Type 0} (answers : Answers S) (before after : Wire S) (r : Result (Unit {0}) Failure) → IsServed answers None before r after
    → GoesOn before.reads after.reads × GoesOn before.writes after.writes
served_transfers answers before after (Ok u) x = ((map (λ p. Some p) x.3.0.pieces ++ x.1, x.3.0.on), (x.3.1.writes, x.3.1.on))
served_transfers answers before after (Err f) x = elim x [
  | inl w ↦ cut_transfers answers before after f w
  | inr w ↦ ((map (λ p. Some p) w.1.1.0.pieces ++ [], w.1.1.0.on), (w.1.1.1.writes, w.1.1.1.on))
]
