-- What is done on one connection keeps what is known of all.
use Rattle.std.proofs.Common.{◌≡◌, ◌≢◌, ◌≤◌, ◌⊎◌, ◌+◌, ◌==◌, cond, ℕ, List, [], ◌∷◌, ◌++◌, Bool, true, false, Option, Some, None, Result, Ok, Err, Vec, refl, sym, ap, ap₂, ◌∙◌, subst, append_assoc, append-nil, inl, inr, take, drop, take-append-drop, arith}
use Rattle.std.proofs.lemmas.Bool.{cases_eq}
use Rattle.std.specs.Global.{Global}
use Rattle.definitions.specs.Values.{Text}
use Rattle.http_definitions.specs.Connections.{Answers, Connection}
use Rattle.faults.specs.declared.Fault.{Fault}
use Rattle.faults.specs.declared.Fault.TheVariants.{NoSession}
use Rattle.connections.specs.Connected.{handler_of, connection_at, IsOpened, IsFed, IsEnded, is_closed_at}
use Rattle.connections.specs.Found.{FindsNoMore, FindsOnly}
use Rattle.connections.specs.Events.{Event, Change, opens, Standing, unopened, Happen, none_is_open, piece_in, bytes_in, stream_of, sent_to}
use Rattle.network.specs.Traffic.{Moved, bytes_of}
use Rattle.network.specs.declared.clients.Client.{Client}
use Rattle.network.specs.declared.clients.Client.TheVariants.{Absent}
use Rattle.connections.specs.declared.sessions.Sessions.{Sessions}
use Rattle.network.specs.Outboxes.{unsent_at}
use Rattle.network.specs.declared.outbox.Outbox.{Outbox}
use Rattle.serving_many.specs.Going.{Stands, State, state_of, Tells, Goes, Keeps}
use Rattle.serving_many.specs.Kept.{IsKept}
use Rattle.serving_many.specs.Needed.{AllNeeded}
use Rattle.serving_many.specs.Present.{AllPresent}
use Rattle.serving_many.specs.Serving.{IsServed}
use Rattle.serving_many.proofs.Among.{no_some}
use Rattle.connections.proofs.Standings.{put_at, put_here, put_elsewhere, streams_on, sent_on, is_own, is_other}
use Rattle.serving_many.proofs.Lists.{bytes_on}
use Rattle.serving_many.proofs.Needed.{is_unfinished}
use Rattle.serving_many.proofs.Present.{may_stay}
use Rattle.serving_many.proofs.Kept.{less_told, kept_more, kept_on, all_kept}
use Rattle.serving_many.proofs.Changes.{happens_on, IsNext, change_of_end, ends_so, change_of_piece, feeds_so, opens_so, opens_not}

silent_cond : (t : Bool) → cond {A = Text} t [] [] ≡ []
silent_cond true = refl
silent_cond false = refl

abbrev events_of : ℕ → Option Change → List Event
events_of id None = []
events_of id (Some c) = record { connection = id; change = c } ∷ []

abbrev piece_of : Option Change → Text
piece_of None = []
piece_of (Some c) = piece_in c

abbrev pub out_of : Option Change → Text
out_of None = []
out_of (Some c) = bytes_in c

own_stream : (id : ℕ) (c : Option Change) → stream_of id (events_of id c) ≡ piece_of c
own_stream id None = refl
own_stream id (Some c) = is_own id (piece_in c)

own_sent : (id : ℕ) (c : Option Change) → sent_to id (events_of id c) ≡ out_of c
own_sent id None = refl
own_sent id (Some c) = is_own id (bytes_in c)

other_stream : (k id : ℕ) (c : Option Change) → k ≢ id → stream_of k (events_of id c) ≡ []
other_stream k id None ne = refl
other_stream k id (Some c) ne = is_other k id (piece_in c ++ []) ne

other_sent : (k id : ℕ) (c : Option Change) → k ≢ id → sent_to k (events_of id c) ≡ []
other_sent k id None ne = refl
other_sent k id (Some c) ne = is_other k id (bytes_in c ++ []) ne

-- how all stand then
abbrev stand_then : {S : Type 0} (answers : Answers S) (at : ℕ → Standing) (s : S) (id : ℕ) (c : Option Change) (now : Option Connection) (t : S) → IsNext answers (at id) s c now t → ℕ → Standing
stand_then answers at s id None now t n = at
stand_then answers at s id (Some c) now t n = put_at id n.0 at

happen_then : {S : Type 0} (answers : Answers S) (es : List Event) (at : ℕ → Standing) (s t u : S) (id : ℕ) (c : Option Change) (now : Option Connection)
    → Happen answers none_is_open s es at t → (n : IsNext answers (at id) t c now u) → Happen answers none_is_open s (es ++ events_of id c) (stand_then answers at t id c now u n) u
happen_then answers es at s t u id None now h n = rw (append-nil es) (subst (λ v. Happen answers none_is_open s es at v) (sym n.1) h)
happen_then answers es at s t u id (Some c) now h n = happens_on answers es none_is_open at s t u id c n.0 h n.1

stands_own : {S : Type 0} (answers : Answers S) (at : ℕ → Standing) (t u : S) (id : ℕ) (c : Option Change) (now : Option Connection) (n : IsNext answers (at id) t c now u) → Stands (stand_then answers at t id c now u n id) now
stands_own answers at t u id None now n = n.0
stands_own answers at t u id (Some c) now n = rw (put_here id n.0 at) n.2

stands_other : {S : Type 0} (answers : Answers S) (at : ℕ → Standing) (t u : S) (id : ℕ) (c : Option Change) (now : Option Connection) (n : IsNext answers (at id) t c now u) (k : ℕ) → k ≢ id → stand_then answers at t id c now u n k ≡ at k
stands_other answers at t u id None now n k ne = refl
stands_other answers at t u id (Some c) now n k ne = put_elsewhere id k n.0 at ne

stands_still : {S : Type 0} (answers : Answers S) (at : ℕ → Standing) (t u : S) (id : ℕ) (c : Option Change) (now : Option Connection) (n : IsNext answers (at id) t c now u) → c ≡ None → stand_then answers at t id c now u n id ≡ at id
stands_still answers at t u id None now n e = refl
stands_still answers at t u id (Some c) now n e = absurd (none_some c e)
  where
    none_some : (c : Change) → Some c ≡ None → ⊥
    none_some c e = cc (e)

-- what is done on one connection, and on no other
pub record Turns {H S : Type 0} (state : H → S) (finds : H → S → Type 0) (answers : Answers S) (id : ℕ) (old new : State H) : Type 0 where
  pub change : Option Change
  pub next : (at : Standing) → Stands at (old.connection id) → IsNext answers at (state old.handler) change (new.connection id) (state new.handler)
  pub same : (k : ℕ) → k ≢ id → new.connection k ≡ old.connection k
  pub others : (k : ℕ) → k ≢ id → new.unsent k ≡ old.unsent k
  pub count : new.count ≡ old.count
  pub read : List Moved
  pub read_on : new.reads ≡ old.reads ++ read
  pub wrote : List Moved
  pub wrote_on : new.writes ≡ old.writes ++ wrote
  pub silent : (k : ℕ) → k ≢ id → (bytes_of k read ≡ []) × (bytes_of k wrote ≡ [])
  pub hears : bytes_of id read ≡ piece_of change
  pub tells : (a b : Text) → Tells a b (old.unsent id) → Tells (a ++ out_of change) (b ++ bytes_of id wrote) (new.unsent id)
  -- what an opening may find it might have found before, and nothing was written since; or it is the state now
  pub kept : (t : S) → finds new.handler t → (finds old.handler t × ((k : ℕ) → bytes_of k wrote ≡ [])) ⊎ (t ≡ state new.handler)
  -- one that isn't open does nothing
  pub rests : old.connection id ≡ None → old.unsent id ≡ None → (change ≡ None) × (new.unsent id ≡ None) × (bytes_of id wrote ≡ [])

module _ {H S : Type 0} (state : H → S) (finds : H → S → Type 0) (answers : Answers S) (id : ℕ) (old new : State H) where
  abbrev next_of : (t : Turns state finds answers id old new) (s : H) (reads writes : List Moved) (x : Goes state finds answers s reads writes old) → IsNext answers (x.standing id) (state old.handler) t.change (new.connection id) (state new.handler)
  next_of t s reads writes x = t.next (x.standing id) (x.stands id)

  abbrev standing_of : (t : Turns state finds answers id old new) (s : H) (reads writes : List Moved) (x : Goes state finds answers s reads writes old) → ℕ → Standing
  standing_of t s reads writes x = stand_then answers x.standing (state old.handler) id t.change (new.connection id) (state new.handler) (next_of t s reads writes x)

  pub turns_keep : Turns state finds answers id old new → Keeps state finds answers old new
  turns_keep t s reads writes x = record {
    events = x.events ++ events_of id t.change;
    standing = standing_of t s reads writes x;
    happened = happened_now;
    stands = λ k. stands k (cases_eq k id);
    read = x.read ++ t.read;
    read_on = t.read_on ∙ ap (λ r. r ++ t.read) x.read_on ∙ append_assoc reads x.read t.read;
    wrote = x.wrote ++ t.wrote;
    wrote_on = t.wrote_on ∙ ap (λ r. r ++ t.wrote) x.wrote_on ∙ append_assoc writes x.wrote t.wrote;
    heard = λ k. rw (bytes_on k x.read t.read, streams_on k x.events (events_of id t.change)) (ap₂ (λ a b. a ++ b) (x.heard k) (hears k (cases_eq k id)));
    told = told_now;
    fresh = λ k le. fresh k (below k le) (cases_eq k id);
    silent = λ k le. silent k (below k le) (cases_eq k id);
    kept = λ clean u f. kept clean u f (t.kept u f);
  }
    where
      stays : (k : ℕ) → k ≢ id → standing_of t s reads writes x k ≡ x.standing k
      stays k ne = stands_other answers x.standing (state old.handler) (state new.handler) id t.change (new.connection id) (next_of t s reads writes x) k ne

      below : (k : ℕ) → new.count ≤ k → old.count ≤ k
      below k le = subst (λ c. c ≤ k) t.count le

      stands : (k : ℕ) → (k ≡ id) ⊎ (k ≡ id → ⊥) → Stands (standing_of t s reads writes x k) (new.connection k)
      stands k (inl e) = subst (λ i. Stands (standing_of t s reads writes x i) (new.connection i)) (sym e) (stands_own answers x.standing (state old.handler) (state new.handler) id t.change (new.connection id) (next_of t s reads writes x))
      stands k (inr ne) = rw (stays k ne, t.same k ne) (x.stands k)

      hears : (k : ℕ) → (k ≡ id) ⊎ (k ≡ id → ⊥) → bytes_of k t.read ≡ stream_of k (events_of id t.change)
      hears k (inl e) = subst (λ i. bytes_of i t.read ≡ stream_of i (events_of id t.change)) (sym e) (t.hears ∙ sym (own_stream id t.change))
      hears k (inr ne) = (t.silent k ne).0 ∙ sym (other_stream k id t.change ne)

      tells : (k : ℕ) → (k ≡ id) ⊎ (k ≡ id → ⊥) → Tells (sent_to k x.events ++ sent_to k (events_of id t.change)) (bytes_of k x.wrote ++ bytes_of k t.wrote) (new.unsent k)
      tells k (inl e) =
          subst (λ i. Tells (sent_to i x.events ++ sent_to i (events_of id t.change)) (bytes_of i x.wrote ++ bytes_of i t.wrote) (new.unsent i)) (sym e)
          (rw (own_sent id t.change) (t.tells _ _ (x.told id)))
      tells k (inr ne) =
          rw (other_sent k id t.change ne, (t.silent k ne).1, append-nil (sent_to k x.events), append-nil (bytes_of k x.wrote), t.others k ne) (x.told k)

      more : List Event
      more = x.events ++ events_of id t.change

      told_now : (k : ℕ) → Tells (sent_to k more) (bytes_of k (x.wrote ++ t.wrote)) (new.unsent k)
      told_now k = rw (sent_on k x.events (events_of id t.change), bytes_on k x.wrote t.wrote) (tells k (cases_eq k id))

      happened_now : Happen answers none_is_open (state s) more (standing_of t s reads writes x) (state new.handler)
      happened_now = happen_then answers x.events x.standing (state s) (state old.handler) (state new.handler) id t.change (new.connection id) x.happened (next_of t s reads writes x)

      kept : FindsOnly finds s (state s) → (u : S) → finds new.handler u → (finds old.handler u × ((k : ℕ) → bytes_of k t.wrote ≡ [])) ⊎ (u ≡ state new.handler)
          → IsKept answers (state s) more (x.wrote ++ t.wrote) u
      kept clean u f (inl w) = kept_on answers (state s) u x.events (events_of id t.change) x.wrote t.wrote w.1 (x.kept clean u w.0)
      kept clean u f (inr e) = all_kept answers (state s) (state new.handler) u more (x.wrote ++ t.wrote) (standing_of t s reads writes x) new.unsent happened_now told_now e

      -- one whose number wasn't given does nothing
      closed_at : old.count ≤ id → old.connection id ≡ None
      closed_at le = subst (λ v. Stands v (old.connection id)) (x.fresh id le).0 (x.stands id)

      still : old.count ≤ id → (t.change ≡ None) × (new.unsent id ≡ None) × (bytes_of id t.wrote ≡ [])
      still le = t.rests (closed_at le) (x.fresh id le).1

      fresh : (k : ℕ) → old.count ≤ k → (k ≡ id) ⊎ (k ≡ id → ⊥) → (standing_of t s reads writes x k ≡ unopened) × (new.unsent k ≡ None)
      fresh k le (inl e) =
          let at : old.count ≤ id = subst (λ i. old.count ≤ i) e le in
          subst (λ i. (standing_of t s reads writes x i ≡ unopened) × (new.unsent i ≡ None)) (sym e)
          (stands_still answers x.standing (state old.handler) (state new.handler) id t.change (new.connection id) (next_of t s reads writes x) (still at).0 ∙ (x.fresh id at).0, (still at).1)
      fresh k le (inr ne) = (stays k ne ∙ (x.fresh k le).0, t.others k ne ∙ (x.fresh k le).1)

      silent : (k : ℕ) → old.count ≤ k → (k ≡ id) ⊎ (k ≡ id → ⊥) → (sent_to k (x.events ++ events_of id t.change) ≡ []) × (bytes_of k (x.wrote ++ t.wrote) ≡ [])
      silent k le (inl e) =
          let at : old.count ≤ id = subst (λ i. old.count ≤ i) e le in
          subst (λ i. (sent_to i (x.events ++ events_of id t.change) ≡ []) × (bytes_of i (x.wrote ++ t.wrote) ≡ [])) (sym e) (
            sent_on id x.events (events_of id t.change) ∙ ap₂ (λ a b. a ++ b) (x.silent id at).0 (own_sent id t.change ∙ ap out_of (still at).0),
            bytes_on id x.wrote t.wrote ∙ ap₂ (λ a b. a ++ b) (x.silent id at).1 (still at).2,
          )
      silent k le (inr ne) = (
        sent_on k x.events (events_of id t.change) ∙ ap₂ (λ a b. a ++ b) (x.silent k le).0 (other_sent k id t.change ne),
        bytes_on k x.wrote t.wrote ∙ ap₂ (λ a b. a ++ b) (x.silent k le).1 (t.silent k ne).1,
      )

no_piece : (c : Option Connection) (r : Result (Vec ℕ Global) Fault) → piece_of (change_of_end c r) ≡ []
no_piece None r = refl
no_piece (Some c) (Ok out) = refl
no_piece (Some c) (Err f) = refl

-- ---- what is told at last
pub words_at_last : (c : Option Connection) (words : Vec ℕ Global) (now : Option Connection) → IsEnded c (Ok words) now → words.items ≡ out_of (change_of_end c (Ok words))
words_at_last None words now e = absurd (no_ok words e.0)
  where
    no_ok : (words : Vec ℕ Global) → Ok words ≡ Err NoSession → ⊥
    no_ok words e = cc (e)
words_at_last (Some c) words now e = refl

pub nothing_at_last : (c : Option Connection) (f : Fault) → [] ≡ out_of (change_of_end c (Err f))
nothing_at_last None f = refl
nothing_at_last (Some c) f = refl

some_read : (k id : ℕ) (piece : Text) → k ≢ id → bytes_of k ((id, piece) ∷ []) ≡ []
some_read k id piece ne = is_other k id (piece ++ []) ne

module _ {H S : Type 0} (state : H → S) (finds : H → S → Type 0) (answers : Answers S) (id : ℕ) (old new : State H) (count : new.count ≡ old.count)
    (same : (k : ℕ) → k ≢ id → new.connection k ≡ old.connection k) (others : (k : ℕ) → k ≢ id → new.unsent k ≡ old.unsent k) where
  -- ---- it is ended, with what was still to be sent
  pub ended : (r : Result (Vec ℕ Global) Fault) → IsEnded (old.connection id) r (new.connection id) → new.handler ≡ old.handler
      → new.reads ≡ old.reads → new.writes ≡ old.writes → new.unsent id ≡ None → Keeps state finds answers old new
  ended r end handler reads writes none = turns_keep state finds answers id old new (record {
    change = change_of_end (old.connection id) r;
    next = λ at st. subst (λ t. IsNext answers at (state old.handler) (change_of_end (old.connection id) r) (new.connection id) t) (sym (ap state handler))
        (ends_so answers (state old.handler) at (old.connection id) (new.connection id) r st end);
    same = same;
    others = others;
    count = count;
    read = [];
    read_on = reads ∙ sym (append-nil old.reads);
    wrote = [];
    wrote_on = writes ∙ sym (append-nil old.writes);
    silent = λ k ne. (refl, refl);
    hears = sym (no_piece (old.connection id) r);
    tells = λ a b x. rw (none, append-nil b) (less_lost a b (out_of (change_of_end (old.connection id) r)) (less_told a b (old.unsent id) x));
    kept = λ t f. inl (subst (λ h. finds h t) handler f, λ k. refl);
    rests = λ e u. (ap (λ c. change_of_end c r) e, none, refl);
  })
    where
      less_lost : (a b out : Text) → Tells a b None → Tells (a ++ out) b None
      less_lost a b out x = (x.0 ++ out, ap (λ l. l ++ out) x.1 ∙ append_assoc b x.0 out)

  -- ---- some of what is to be sent is written
  pub wrote_some : (rest : Text) (n : ℕ) → new.connection id ≡ old.connection id → new.handler ≡ old.handler → new.reads ≡ old.reads → new.writes ≡ old.writes ++ (id, take n rest) ∷ []
      → old.unsent id ≡ Some rest → new.unsent id ≡ Some (drop n rest) → FindsOnly finds old.handler (state old.handler) → Keeps state finds answers old new
  wrote_some rest n stay handler reads writes was now only = turns_keep state finds answers id old new (record {
    change = None;
    next = λ at st. (subst (Stands at) (sym stay) st, ap state handler);
    same = same;
    others = others;
    count = count;
    read = [];
    read_on = reads ∙ sym (append-nil old.reads);
    wrote = (id, take n rest) ∷ [];
    wrote_on = writes;
    silent = λ k ne. (refl, some_read k id (take n rest) ne);
    hears = refl;
    tells = λ a b x. rw (append-nil a, is_own id (take n rest), now)
        ((rw was at x) ∙ ap (λ r. b ++ r) (sym (take-append-drop n rest)) ∙ sym (append_assoc b (take n rest) (drop n rest)));
    kept = λ t f. inr (only t (subst (λ h. finds h t) handler f) ∙ sym (ap state handler));
    rests = λ e u. absurd (no_some rest (old.unsent id) was u);
  })

  -- ---- a piece is answered, and what is told is to be sent
  pub fed_one : (piece out : Text) (r : Result (Unit {0}) Fault) → IsFed answers (old.connection id) piece (state old.handler) r out (new.connection id) (state new.handler)
      → is_closed_at (old.connection id) ≡ false → new.reads ≡ old.reads ++ (id, piece) ∷ [] → new.writes ≡ old.writes
      → old.unsent id ≡ Some [] → new.unsent id ≡ Some (bytes_in (change_of_piece piece out r)) → FindsNoMore finds old.handler new.handler → Keeps state finds answers old new
  fed_one piece out r fed opened reads writes was now found = turns_keep state finds answers id old new (record {
    change = Some (change_of_piece piece out r);
    next = λ at st. feeds_so answers (state old.handler) (state new.handler) at (old.connection id) (new.connection id) piece out r st opened fed;
    same = same;
    others = others;
    count = count;
    read = (id, piece) ∷ [];
    read_on = reads;
    wrote = [];
    wrote_on = writes ∙ sym (append-nil old.writes);
    silent = λ k ne. (some_read k id piece ne, refl);
    hears = is_own id piece ∙ sym (is_piece r);
    tells = λ a b x. rw (append-nil b, now) (ap (λ l. l ++ bytes_in (change_of_piece piece out r)) ((rw was at x) ∙ append-nil b));
    kept = λ t f. inl (found t f, λ k. refl);
    rests = λ e u. absurd (no_some [] (old.unsent id) was u);
  })
    where
      is_piece : (r : Result (Unit {0}) Fault) → piece_in (change_of_piece piece out r) ≡ piece
      is_piece (Ok u) = refl
      is_piece (Err f) = refl

  -- ---- its stream ends, and what is told at last is to be sent
  pub told_at_last : (r : Result (Vec ℕ Global) Fault) → IsEnded (old.connection id) r (new.connection id) → new.handler ≡ old.handler
      → new.reads ≡ old.reads → new.writes ≡ old.writes → old.unsent id ≡ Some [] → new.unsent id ≡ Some (out_of (change_of_end (old.connection id) r)) → Keeps state finds answers old new
  told_at_last r end handler reads writes was now = turns_keep state finds answers id old new (record {
    change = change_of_end (old.connection id) r;
    next = λ at st. subst (λ t. IsNext answers at (state old.handler) (change_of_end (old.connection id) r) (new.connection id) t) (sym (ap state handler))
        (ends_so answers (state old.handler) at (old.connection id) (new.connection id) r st end);
    same = same;
    others = others;
    count = count;
    read = [];
    read_on = reads ∙ sym (append-nil old.reads);
    wrote = [];
    wrote_on = writes ∙ sym (append-nil old.writes);
    silent = λ k ne. (refl, refl);
    hears = sym (no_piece (old.connection id) r);
    tells = λ a b x. rw (now, append-nil b) (ap (λ l. l ++ out_of (change_of_end (old.connection id) r)) ((rw was at x) ∙ append-nil b));
    kept = λ t f. inl (subst (λ h. finds h t) handler f, λ k. refl);
    rests = λ e u. absurd (no_some [] (old.unsent id) was u);
  })

  -- ---- a call that moves no bytes
  pub wrote_nothing : new.connection id ≡ old.connection id → new.unsent id ≡ old.unsent id → new.handler ≡ old.handler → new.reads ≡ old.reads → new.writes ≡ old.writes ++ (id, []) ∷ [] → Keeps state finds answers old new
  wrote_nothing stay unsent handler reads writes = turns_keep state finds answers id old new (record {
    change = None;
    next = λ at st. (subst (Stands at) (sym stay) st, ap state handler);
    same = same;
    others = others;
    count = count;
    read = [];
    read_on = reads ∙ sym (append-nil old.reads);
    wrote = (id, []) ∷ [];
    wrote_on = writes;
    silent = λ k ne. (refl, some_read k id [] ne);
    hears = refl;
    tells = λ a b x. rw (append-nil a, is_own id [], append-nil b, unsent) x;
    kept = λ t f. inl (subst (λ h. finds h t) handler f, λ k. silent_cond (k == id));
    rests = λ e u. (refl, unsent ∙ u, is_own id []);
  })

  pub moved_nothing : new.connection id ≡ old.connection id → new.unsent id ≡ old.unsent id → new.handler ≡ old.handler → new.reads ≡ old.reads → new.writes ≡ old.writes → Keeps state finds answers old new
  moved_nothing stay unsent handler reads writes = turns_keep state finds answers id old new (record {
    change = None;
    next = λ at st. (subst (Stands at) (sym stay) st, ap state handler);
    same = same;
    others = others;
    count = count;
    read = [];
    read_on = reads ∙ sym (append-nil old.reads);
    wrote = [];
    wrote_on = writes ∙ sym (append-nil old.writes);
    silent = λ k ne. (refl, refl);
    hears = refl;
    tells = λ a b x. rw (append-nil a, append-nil b, unsent) x;
    kept = λ t f. inl (subst (λ h. finds h t) handler f, λ k. refl);
    rests = λ e u. (refl, unsent ∙ u, refl);
  })

  pub read_nothing : new.connection id ≡ old.connection id → new.unsent id ≡ old.unsent id → new.handler ≡ old.handler → new.reads ≡ old.reads ++ (id, []) ∷ [] → new.writes ≡ old.writes → Keeps state finds answers old new
  read_nothing stay unsent handler reads writes = turns_keep state finds answers id old new (record {
    change = None;
    next = λ at st. (subst (Stands at) (sym stay) st, ap state handler);
    same = same;
    others = others;
    count = count;
    read = (id, []) ∷ [];
    read_on = reads;
    wrote = [];
    wrote_on = writes ∙ sym (append-nil old.writes);
    silent = λ k ne. (some_read k id [] ne, refl);
    hears = is_own id [];
    tells = λ a b x. rw (append-nil a, append-nil b, unsent) x;
    kept = λ t f. inl (subst (λ h. finds h t) handler f, λ k. refl);
    rests = λ e u. (refl, unsent ∙ u, refl);
  })

-- ---- one is opened, under a number that wasn't given
pub opened : {H S : Type 0} (state : H → S) (finds : H → S → Type 0) (answers : Answers S) (id : ℕ) (old new : State H) (r : Result (Unit {0}) Fault) → old.count ≤ id → new.count ≡ id + 1
    → IsOpened (old.connection id) r (new.connection id) → ((k : ℕ) → k ≢ id → new.connection k ≡ old.connection k)
    → new.unsent id ≡ Some [] → ((k : ℕ) → k ≢ id → new.unsent k ≡ old.unsent k)
    → new.handler ≡ old.handler → new.reads ≡ old.reads → new.writes ≡ old.writes → Keeps state finds answers old new
opened state finds answers id old new r at_count count opening same some others handler same_reads same_writes s reads writes x = record {
  events = x.events ++ events_of id (change r);
  standing = stand_then answers x.standing (state old.handler) id (change r) (new.connection id) (state new.handler) n;
  happened = happen_then answers x.events x.standing (state s) (state old.handler) (state new.handler) id (change r) (new.connection id) x.happened n;
  stands = λ k. stands k (cases_eq k id);
  read = x.read;
  read_on = same_reads ∙ x.read_on;
  wrote = x.wrote;
  wrote_on = same_writes ∙ x.wrote_on;
  heard = λ k. x.heard k ∙ sym (streams_on k x.events (events_of id (change r)) ∙ ap (λ l. stream_of k x.events ++ l) (no_stream k r) ∙ append-nil (stream_of k x.events));
  told = λ k. rw (sent_on k x.events (events_of id (change r)), no_sent k r, append-nil (sent_to k x.events)) (tells k (cases_eq k id));
  fresh = λ k le. (stays k (above k le) ∙ (x.fresh k (below k le)).0, others k (above k le) ∙ (x.fresh k (below k le)).1);
  silent = λ k le. (
    sent_on k x.events (events_of id (change r)) ∙ ap₂ (λ a b. a ++ b) (x.silent k (below k le)).0 (no_sent k r),
    (x.silent k (below k le)).1,
  );
  kept = λ clean t f. kept_more answers (state s) t x.events (events_of id (change r)) x.wrote (x.kept clean t (subst (λ h. finds h t) handler f));
}
  where
    change : Result (Unit {0}) Fault → Option Change
    change (Ok u) = Some opens
    change (Err f) = None

    no_stream : (k : ℕ) (r : Result (Unit {0}) Fault) → stream_of k (events_of id (change r)) ≡ []
    no_stream k (Ok u) = silent_cond (k == id)
    no_stream k (Err f) = refl

    no_sent : (k : ℕ) (r : Result (Unit {0}) Fault) → sent_to k (events_of id (change r)) ≡ []
    no_sent k (Ok u) = silent_cond (k == id)
    no_sent k (Err f) = refl

    unopened_at : x.standing id ≡ unopened
    unopened_at = (x.fresh id at_count).0

    none_at : old.connection id ≡ None
    none_at = subst (λ v. Stands v (old.connection id)) unopened_at (x.stands id)

    next : (r : Result (Unit {0}) Fault) → IsOpened (old.connection id) r (new.connection id) → IsNext answers (x.standing id) (state old.handler) (change r) (new.connection id) (state new.handler)
    next (Ok u) o = subst (λ v. IsNext answers v (state old.handler) (Some opens) (new.connection id) (state new.handler)) (sym unopened_at)
        (subst (λ t. IsNext answers unopened (state old.handler) (Some opens) (new.connection id) t) (sym (ap state handler)) (opens_so answers (state old.handler) (old.connection id) (new.connection id) u none_at o))
    next (Err f) o = (subst (λ v. Stands v (new.connection id)) (sym unopened_at) (opens_not (old.connection id) (new.connection id) f none_at o), ap state handler)

    n : IsNext answers (x.standing id) (state old.handler) (change r) (new.connection id) (state new.handler)
    n = next r opening

    stays : (k : ℕ) → k ≢ id → stand_then answers x.standing (state old.handler) id (change r) (new.connection id) (state new.handler) n k ≡ x.standing k
    stays k ne = stands_other answers x.standing (state old.handler) (state new.handler) id (change r) (new.connection id) n k ne

    stands : (k : ℕ) → (k ≡ id) ⊎ (k ≡ id → ⊥) → Stands (stand_then answers x.standing (state old.handler) id (change r) (new.connection id) (state new.handler) n k) (new.connection k)
    stands k (inl e) = subst (λ i. Stands (stand_then answers x.standing (state old.handler) id (change r) (new.connection id) (state new.handler) n i) (new.connection i)) (sym e) (stands_own answers x.standing (state old.handler) (state new.handler) id (change r) (new.connection id) n)
    stands k (inr ne) = rw (stays k ne, same k ne) (x.stands k)

    tells : (k : ℕ) → (k ≡ id) ⊎ (k ≡ id → ⊥) → Tells (sent_to k x.events) (bytes_of k x.wrote) (new.unsent k)
    tells k (inl e) = rw (e, some) ((x.silent id at_count).0 ∙ sym (append-nil (bytes_of id x.wrote) ∙ (x.silent id at_count).1))
    tells k (inr ne) = rw (others k ne) (x.told k)

    below : (k : ℕ) → new.count ≤ k → old.count ≤ k
    below k le = omega (arith, count, le, at_count)

    above : (k : ℕ) → new.count ≤ k → k ≢ id
    above k le e = omega (arith, count, le, e)

-- ---- what was answered is made durable, or that fails
pub settled : {H S : Type 0} (state : H → S) (finds : H → S → Type 0) (answers : Answers S) (before after : Sessions H) (o : Outbox) (reads writes : List Moved)
    → ((k : ℕ) → connection_at after k ≡ connection_at before k) → state (handler_of after) ≡ state (handler_of before)
    → ((t : S) → finds (handler_of after) t → finds (handler_of before) t ⊎ (t ≡ state (handler_of before)))
    → Keeps state finds answers (state_of before o reads writes) (state_of after o reads writes)
settled {H} {S} state finds answers before after o reads writes same stays crash s from_reads from_writes x = record {
  events = x.events;
  standing = x.standing;
  happened = subst (λ (v : S). Happen answers none_is_open (state s) x.events x.standing v) (sym stays) x.happened;
  stands = λ k. subst (Stands (x.standing k)) (sym (same k)) (x.stands k);
  read = x.read;
  read_on = x.read_on;
  wrote = x.wrote;
  wrote_on = x.wrote_on;
  heard = x.heard;
  told = x.told;
  fresh = x.fresh;
  silent = x.silent;
  kept = λ clean t f. elim (crash t f) [
    | inl w ↦ x.kept clean t w
    | inr e ↦ all_kept answers (state s) (state (handler_of before)) t x.events x.wrote x.standing (unsent_at o) x.happened x.told e
  ];
}

-- ---- the whole
pub at_start : {H S : Type 0} (state : H → S) (finds : H → S → Type 0) (answers : Answers S) (start : H) (reads writes : List Moved) (now : State H) → now.handler ≡ start → now.reads ≡ reads → now.writes ≡ writes
    → ((k : ℕ) → now.connection k ≡ None) → ((k : ℕ) → now.unsent k ≡ None) → Goes state finds answers start reads writes now
at_start state finds answers start reads writes now handler same_reads same_writes none silent = record {
  events = [];
  standing = none_is_open;
  happened = (λ k. refl, ap state handler);
  stands = none;
  read = [];
  read_on = same_reads ∙ sym (append-nil reads);
  wrote = [];
  wrote_on = same_writes ∙ sym (append-nil writes);
  heard = λ k. refl;
  told = told;
  fresh = λ k le. (refl, silent k);
  silent = λ k le. (refl, refl);
  kept = λ clean t f. all_kept answers (state start) (state start) t [] [] none_is_open now.unsent (λ k. refl, refl) told (clean t (subst (λ h. finds h t) handler f));
}
  where
    told : (k : ℕ) → Tells [] [] (now.unsent k)
    told k = rw (silent k) ([], refl)

pub is_served : {H S : Type 0} (state : H → S) (finds : H → S → Type 0) (answers : Answers S) (before after : Sessions H) (o : Outbox) (reads writes more others : List Moved) (clients remaining : ℕ → Client)
    → Goes state finds answers (handler_of before) reads writes (state_of after o more others) → AllNeeded (connection_at after) (unsent_at o) → (((k : ℕ) → clients k ≡ Absent) → AllPresent remaining (unsent_at o))
    → IsServed state finds answers before reads writes clients after more others remaining
is_served state finds answers before after o reads writes more others clients remaining x needed present = record {
  events = x.events;
  standing = x.standing;
  happened = x.happened;
  stands = x.stands;
  read = x.read;
  read_on = x.read_on;
  wrote = x.wrote;
  wrote_on = x.wrote_on;
  heard = x.heard;
  told = λ k. less_told _ _ (unsent_at o k) (x.told k);
  unfinished = λ k. is_unfinished (connection_at after k) (unsent_at o k) (sent_to k x.events) (bytes_of k x.wrote) (needed k) (x.told k);
  present = λ none k. may_stay (remaining k) (connection_at after k) (unsent_at o k) (sent_to k x.events) (bytes_of k x.wrote) (present none k) (needed k) (x.told k);
  kept = x.kept;
}

-- a call that moves nothing
pub goes_on : {H S : Type 0} (state : H → S) (finds : H → S → Type 0) (answers : Answers S) (start : H) (from_reads from_writes : List Moved) (sessions : Sessions H) (o : Outbox) (reads writes more others : List Moved)
    → more ≡ reads → others ≡ writes → Goes state finds answers start from_reads from_writes (state_of sessions o reads writes) → Goes state finds answers start from_reads from_writes (state_of sessions o more others)
goes_on state finds answers start from_reads from_writes sessions o reads writes more others e f x = rw (e, f) x
