-- What one change adds to what is answered and sent on its connection.
use Rattle.std.proofs.Common.{◌≡◌, ◌⊎◌, List, [], ◌∷◌, ◌++◌, Bool, true, false, refl, sym, ap, ◌∙◌, subst, append_assoc, append-nil, inl, inr}
use Rattle.definitions.specs.Values.{Text}
use Rattle.definitions.specs.Registries.{Reply}
use Rattle.http_definitions.specs.Streams.{Message, without_line_ends, BeginsWith, Spells, IsWaiting, close}
use Rattle.http_definitions.specs.Connections.{Answers, AnswersAll, Connection, holding, closed, Ends, Takes}
use Rattle.http_laws.proofs.Cutting.{begins_on_behind}
use Rattle.http_laws.proofs.Pieces.{holds_on}
use Rattle.http_laws.proofs.SpelledOnce.{waiting_has_none}
use Rattle.http_laws.proofs.Steps.{nothing_waits}
use Rattle.connections.specs.Progress.{TakesSome}
use Rattle.connections.specs.Events.{Change, opens, feeds, stops, ends, breaks, Standing, unopened, served, short, ended, lost, IsChange, piece_in, bytes_in, IsSent, IsSentInPart, IsServed}
use Rattle.connections.proofs.Sent.{rest_is_dropped, closed_on, sent_on}

-- these requests are answered, and the connection goes on from whatever was sent on it
pub record Adds {S : Type 0} (answers : Answers S) (c : Standing) (t : S) (change : Change) (d : Standing) (u : S) : Type 0 where
  pub messages : List Message
  pub replies : List Reply
  pub answered : AnswersAll answers t messages replies u
  pub on : (stream : Text) (ms : List Message) (rs : List Reply) (out : Text) → IsServed stream ms rs out c
      → IsServed (stream ++ piece_in change) (ms ++ messages) (rs ++ replies) (out ++ bytes_in change) d

-- ---- parts of bytes
-- of two ways to cut one text the first cut of one lies behind that of the other
parted : (a b c d : Text) → a ++ b ≡ c ++ d → ((p : Text) × (c ≡ a ++ p) × (b ≡ p ++ d)) ⊎ ((h : Text) × (a ≡ c ++ h) × (d ≡ h ++ b))
parted [] b c d e = inl (c, refl, e)
parted (x ∷ a) b [] d e = inr (x ∷ a, refl, sym e)
parted (x ∷ a) b (y ∷ c) d e =
    let first : x ≡ y = cc e in
    let rest : a ++ b ≡ c ++ d = cc e in
    elim (parted a b c d rest) [
      | inl w ↦ inl (w.0, rw first (ap (λ t. y ∷ t) w.1), w.2)
      | inr w ↦ inr (w.0, rw first (ap (λ t. y ∷ t) w.1), w.2)
    ]

-- a connection that still holds bytes has none that begin with a request
held_has_none : (stream : Text) (ms : List Message) (rs : List Reply) (out held : Text) (m : Message) (more : Text)
    → IsSent stream ms rs out (holding held) → ¬ (BeginsWith (without_line_ends held) m more)
held_has_none stream ms rs out held m more x b =
    let waits : IsWaiting x.rest = waiting (close ms) x.rest x.told held x.ends in
    let same : held ≡ x.rest = (holds_on (close ms) x.rest x.told held x.ends).2 in
    let bare : without_line_ends held ≡ x.rest = ap without_line_ends same ∙ rest_is_dropped stream ms x.rest x.spelled in
    waiting_has_none x.rest waits m more (subst (λ t. BeginsWith t m more) bare b)
  where
    waiting : (c : Bool) (rest told held : Text) → Ends c rest told (holding held) → IsWaiting rest
    waiting true rest told held e = cc e.1
    waiting false rest told held e = elim e [
      | inl w ↦ w.0
      | inr w ↦ cc w.2
    ]

-- ---- standings
nothing_sent : IsSent [] [] [] [] (holding [])
nothing_sent = record { rest = []; told = []; spelled = refl; paired = refl; ends = inl (nothing_waits, refl, refl); out_is = refl }

-- nothing is added
on_nil : (stream : Text) (ms : List Message) (rs : List Reply) (out : Text) (c : Standing) → IsServed stream ms rs out c
    → IsServed (stream ++ []) (ms ++ []) (rs ++ []) (out ++ []) c
on_nil stream ms rs out c x = rw (append-nil stream, append-nil ms, append-nil rs, append-nil out) x

-- .. by a change that leaves the connection so
adds_none : {S : Type 0} (answers : Answers S) (c : Standing) (t : S) (change : Change) (d : Standing) (u : S)
    → piece_in change ≡ [] → bytes_in change ≡ [] → u ≡ t
    → ((stream : Text) (ms : List Message) (rs : List Reply) (out : Text) → IsServed stream ms rs out c → IsServed stream ms rs out d)
    → Adds answers c t change d u
adds_none answers c t change d u piece bytes same on = record {
  messages = [];
  replies = [];
  answered = same;
  on = λ stream ms rs out x. rw (piece, bytes) (on_nil stream ms rs out d (on stream ms rs out x));
}

-- .. or takes a piece and answers nothing
adds_piece : {S : Type 0} (answers : Answers S) (c : Standing) (t : S) (piece out : Text) (u : S) → out ≡ [] → u ≡ t
    → ((stream : Text) (ms : List Message) (rs : List Reply) (sent : Text) → IsServed stream ms rs sent c → IsServed (stream ++ piece) ms rs sent c)
    → Adds answers c t (feeds piece out) c u
adds_piece answers c t piece out u quiet same on = record {
  messages = [];
  replies = [];
  answered = same;
  on = λ stream ms rs sent x. rw (quiet, append-nil ms, append-nil rs, append-nil sent) (on stream ms rs sent x);
}

opened : (stream : Text) (ms : List Message) (rs : List Reply) (out : Text) → IsServed stream ms rs out unopened → IsServed stream ms rs out (served (holding []))
opened stream ms rs out x = rw (x.0, x.1, x.2, x.3) nothing_sent

part_on : (piece stream : Text) (ms : List Message) (rs : List Reply) (out : Text) → IsSentInPart stream ms rs out → IsSentInPart (stream ++ piece) ms rs out
part_on piece stream ms rs out x = record {
  part = x.part;
  more = x.more ++ piece;
  whole = ap (λ t. t ++ piece) x.whole ∙ append_assoc x.part x.more piece;
  told = x.told;
  untold = x.untold;
  cut = x.cut;
  now = x.now;
  sent = x.sent;
}

-- all that was sent, and nothing behind it
part_of : (c : Connection) (piece stream : Text) (ms : List Message) (rs : List Reply) (out : Text) → IsSent stream ms rs out c → IsSentInPart (stream ++ piece) ms rs out
part_of c piece stream ms rs out x = record { part = stream; more = piece; whole = refl; told = out; untold = []; cut = sym (append-nil out); now = c; sent = x }

-- ---- want of memory for a piece
stopped_behind : {S : Type 0} (answers : Answers S) (held piece p more : Text) (t u : S) (out : Text) (now : Connection) (y : Takes answers (held ++ p) t out now u)
    → piece ≡ p ++ more → Adds answers (served (holding held)) t (stops piece) short u
stopped_behind answers held piece p more t u out now y whole = record {
  messages = y.messages;
  replies = y.replies;
  answered = y.answered;
  on = λ stream ms rs sent x. record {
    part = stream ++ p;
    more = more;
    whole = ap (λ q. stream ++ q) whole ∙ sym (append_assoc stream p more);
    told = sent ++ out;
    untold = out;
    cut = ap (λ s. s ++ out) (sym (append-nil sent));
    now = now;
    sent = sent_on answers stream p ms rs sent out held now t u x y;
  };
}

stopped_before : {S : Type 0} (answers : Answers S) (held piece front h : Text) (t u : S) (out : Text) (now : Connection) (ns : List Message) (qs : List Reply) (rest : Text)
    → held ≡ front ++ h → Spells front ns rest → AnswersAll answers t ns qs u → Adds answers (served (holding held)) t (stops piece) short u
stopped_before answers held piece front h t u out now [] [] rest cut spelled answered = record {
  messages = [];
  replies = [];
  answered = answered;
  on = λ stream ms rs sent x. rw (append-nil ms, append-nil rs, append-nil sent) (part_of (holding held) piece stream ms rs sent x);
}
stopped_before answers held piece front h t u out now [] (q ∷ qs) rest cut spelled answered = absurd answered
stopped_before answers held piece front h t u out now (n ∷ ns) [] rest cut spelled answered = absurd answered
stopped_before answers held piece front h t u out now (n ∷ ns) (q ∷ qs) rest cut spelled answered = record {
  messages = n ∷ ns;
  replies = q ∷ qs;
  answered = answered;
  on = λ stream ms rs sent x. absurd (held_has_none stream ms rs sent held n (spelled.0 ++ h) x
      (subst (λ t. BeginsWith (without_line_ends t) n (spelled.0 ++ h)) (sym cut) (begins_on_behind front n spelled.0 h spelled.1)));
}

stopped : {S : Type 0} (answers : Answers S) (held piece : Text) (t u : S) → TakesSome answers (held ++ piece) t u
    → Adds answers (served (holding held)) t (stops piece) short u
stopped answers held piece t u x = elim (parted held piece x.front x.more x.whole) [
  | inl w ↦ stopped_behind answers held piece w.0 x.more t u x.out x.now (subst (λ f. Takes answers f t x.out x.now u) w.1 x.takes) w.2
  | inr w ↦ stopped_before answers held piece x.front w.0 t u x.out x.now x.takes.messages x.takes.replies x.takes.rest w.1 x.takes.spelled x.takes.answered
]

-- ---- all changes
pub change_adds : {S : Type 0} (answers : Answers S) (c : Standing) (t : S) (change : Change) (d : Standing) (u : S) → IsChange answers c t change d u
    → Adds answers c t change d u
change_adds answers unopened t opens d u x = rw x.0 (adds_none answers unopened t opens (served (holding [])) u refl refl x.1 opened)
change_adds answers (served closed) t (feeds piece out) d u x =
    let on = adds_piece answers (served closed) t piece out u x.2.0 x.2.2
    (λ stream ms rs sent y. closed_on stream piece ms rs sent y) in
    rw (x.1 ∙ ap served x.2.1) on
change_adds answers (served (holding held)) t (feeds piece out) d u x = rw x.1 (record {
  messages = x.2.messages;
  replies = x.2.replies;
  answered = x.2.answered;
  on = λ stream ms rs sent y. sent_on answers stream piece ms rs sent out held x.0 t u y x.2;
})
change_adds answers (served closed) t (stops piece) d u x = absurd x.1
change_adds answers (served (holding held)) t (stops piece) d u x = rw x.0 (stopped answers held piece t u x.1)
change_adds answers (served c) t (ends out) d u x = rw x.0 (record {
  messages = [];
  replies = [];
  answered = x.2;
  on = λ stream ms rs sent y. record {
    told = sent;
    now = c;
    sent = rw (append-nil stream, append-nil ms, append-nil rs) y;
    out_is = ap (λ w. sent ++ w) x.1;
  };
})
change_adds answers (served c) t breaks d u x = rw x.0 (record {
  messages = [];
  replies = [];
  answered = x.1;
  on = λ stream ms rs sent y. rw (append-nil ms, append-nil rs, append-nil sent) (part_of c [] stream ms rs sent y);
})
change_adds answers short t (feeds piece out) d u x = rw x.0 (adds_piece answers short t piece out u x.1 x.2 (part_on piece))
change_adds answers short t (ends out) d u x = rw x.0 (adds_none answers short t (ends out) lost u refl x.1 x.2 (λ stream ms rs sent y. y))
change_adds answers short t breaks d u x = rw x.0 (adds_none answers short t breaks lost u refl refl x.1 (λ stream ms rs sent y. y))
change_adds answers unopened t change d u x = absurd x
change_adds answers (served c) t change d u x = absurd x
change_adds answers short t change d u x = absurd x
change_adds answers ended t change d u x = absurd x
change_adds answers lost t change d u x = absurd x
