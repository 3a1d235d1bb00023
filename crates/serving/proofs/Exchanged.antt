-- Pieces, one after the other.
use Rattle.std.proofs.Common.{◌≡◌, ◌+◌, List, [], ◌∷◌, ◌++◌, Bool, true, false, ◌&&◌, Some, map, length, refl, sym, ap, ◌∙◌, subst, append_assoc, append-nil, length-append, arith}
use Rattle.std.specs.List.{concat, list_all}
use Rattle.std.proofs.lemmas.List.{map-append}
use Rattle.definitions.specs.Values.{Text}
use Rattle.http_definitions.specs.Connections.{Answers, Connection, holding, Takes, last_words}
use Rattle.http_laws.proofs.Pieces.{takes_on}
use Rattle.http_laws.proofs.Steps.{takes_line_ends}
use Rattle.serving.specs.Transfers.{Transfer}
use Rattle.serving.specs.Writing.{Writes, WritesSome}
use Rattle.serving.specs.Exchanges.{Wire, wire, has_bytes, Reads, Tells, TellsAll, TellsSome}
use Rattle.serving.proofs.Written.{writes_nothing, writes_on, writes_some_on, writes_some_of}

-- ---- lists
and_more : (a b c : Bool) → (a && b) ≡ true → (b ≡ true → c ≡ true) → (a && c) ≡ true
and_more true b c h f = f h
and_more false b c h f = h

have_more : (ps : List Text) (p : Text) → list_all has_bytes ps ≡ true → has_bytes p ≡ true → list_all has_bytes (ps ++ p ∷ []) ≡ true
have_more [] p h e = rw e refl
have_more (x ∷ ps) p h e = and_more (has_bytes x) _ _ h (λ i. have_more ps p i e)

concat_more : (ps : List Text) (p : Text) → concat (ps ++ p ∷ []) ≡ concat ps ++ p
concat_more [] p = append-nil p
concat_more (x ∷ ps) p = ap (λ r. x ++ r) (concat_more ps p) ∙ sym (append_assoc x (concat ps) p)

on_more : (a m b ps more : List Transfer) → m ≡ a ++ (ps ++ []) → b ≡ m ++ more → b ≡ a ++ (ps ++ more)
on_more a m b ps more e f = f ∙ ap (λ r. r ++ more) (e ∙ ap (λ p. a ++ p) (append-nil ps)) ∙ append_assoc a ps more

on_piece : (a m b : List Transfer) (ps : List Text) (p : Text) → m ≡ a ++ (map (λ q. Some q) ps ++ []) → b ≡ m ++ (Some p ∷ [])
    → b ≡ a ++ (map (λ q. Some q) (ps ++ p ∷ []) ++ [])
on_piece a m b ps p e f =
    on_more a m b (map (λ q. Some q) ps) (Some p ∷ []) e f
    ∙ ap (λ r. a ++ r) (sym (append-nil _ ∙ map-append (λ q. Some q) ps (p ∷ [])))

-- ---- reads
abbrev pub reads_nothing : {S : Type 0} (answers : Answers S) (before : Wire S) → Tells answers before [] (holding []) before
reads_nothing answers before = (
  record { pieces = []; have_bytes = refl; on = sym (append-nil before.reads); out = []; takes = takes_line_ends answers [] before.handler refl },
  writes_nothing before.writes,
)

-- one read more, which gives no piece
pub last_read : {S : Type 0} (answers : Answers S) (start : Wire S) (now : Connection) (t : S) (reads writes more : List Transfer) (last : Transfer)
    → Tells answers start [] now (wire t reads writes) → more ≡ reads ++ (last ∷ []) → Tells answers start (last ∷ []) now (wire t more writes)
last_read answers start now t reads writes more last x e = (
  record {
    pieces = x.0.pieces;
    have_bytes = x.0.have_bytes;
    on = on_more start.reads reads more (map (λ q. Some q) x.0.pieces) (last ∷ []) x.0.on e;
    out = x.0.out;
    takes = x.0.takes;
  },
  x.1,
)

-- one piece more
pub piece_read : {S : Type 0} (answers : Answers S) (start : Wire S) (held piece out : Text) (now : Connection) (t u : S) (reads writes more others : List Transfer)
    → Reads answers start [] (holding held) (wire t reads writes) → has_bytes piece ≡ true → more ≡ reads ++ (Some piece ∷ [])
    → Takes answers (held ++ piece) t out now u → Reads answers start [] now (wire u more others)
piece_read answers start held piece out now t u reads writes more others x h e y = record {
  pieces = x.pieces ++ piece ∷ [];
  have_bytes = have_more x.pieces piece x.have_bytes h;
  on = on_piece start.reads reads more x.pieces piece x.on e;
  out = x.out ++ out;
  takes = subst (λ b. Takes answers b start.handler (x.out ++ out) now u) (sym (concat_more x.pieces piece))
      (takes_on answers (concat x.pieces) piece start.handler t u x.out out held now x.takes y);
}

-- .. that is told
pub piece_told : {S : Type 0} (answers : Answers S) (start : Wire S) (held piece out : Text) (now : Connection) (t u : S) (reads writes more others : List Transfer)
    (x : Tells answers start [] (holding held) (wire t reads writes)) → has_bytes piece ≡ true → more ≡ reads ++ (Some piece ∷ [])
    → Takes answers (held ++ piece) t out now u → Writes writes out others
    → (y : Tells answers start [] now (wire u more others)) × (length y.0.pieces ≡ length x.0.pieces + 1)
unfolding piece_read
piece_told answers start held piece out now t u reads writes more others x h e y w = (
  (piece_read answers start held piece out now t u reads writes more others x.0 h e y, writes_on start.writes writes others x.0.out out x.1 w),
  omega (arith, length-append x.0.pieces (piece ∷ [])),
)

-- .. of which a part is told
pub piece_broken : {S : Type 0} (answers : Answers S) (start : Wire S) (held piece out : Text) (now : Connection) (t u : S) (reads writes more others : List Transfer)
    → Tells answers start [] (holding held) (wire t reads writes) → has_bytes piece ≡ true → more ≡ reads ++ (Some piece ∷ [])
    → Takes answers (held ++ piece) t out now u → WritesSome writes out others → TellsSome answers start [] now (wire u more others)
unfolding piece_read
piece_broken answers start held piece out now t u reads writes more others x h e y w = (
  piece_read answers start held piece out now t u reads writes more others x.0 h e y,
  writes_some_of start.writes others (x.0.out ++ out) (last_words now) (writes_some_on start.writes writes others x.0.out out x.1 w),
)

-- ---- the end of the stream
pub words_told : {S : Type 0} (answers : Answers S) (start : Wire S) (last : List Transfer) (now : Connection) (t : S) (reads writes others : List Transfer)
    → Tells answers start last now (wire t reads writes) → Writes writes (last_words now) others → TellsAll answers start last now (wire t reads others)
words_told answers start last now t reads writes others x w = (
  record { pieces = x.0.pieces; have_bytes = x.0.have_bytes; on = x.0.on; out = x.0.out; takes = x.0.takes },
  writes_on start.writes writes others x.0.out (last_words now) x.1 w,
)

pub words_broken : {S : Type 0} (answers : Answers S) (start : Wire S) (last : List Transfer) (now : Connection) (t : S) (reads writes others : List Transfer)
    → Tells answers start last now (wire t reads writes) → WritesSome writes (last_words now) others → TellsSome answers start last now (wire t reads others)
words_broken answers start last now t reads writes others x w = (
  record { pieces = x.0.pieces; have_bytes = x.0.have_bytes; on = x.0.on; out = x.0.out; takes = x.0.takes },
  writes_some_on start.writes writes others x.0.out (last_words now) x.1 w,
)
