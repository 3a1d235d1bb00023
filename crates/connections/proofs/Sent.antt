-- What is sent on one connection, as its stream goes on.
use Rattle.std.proofs.Common.{◌≡◌, ◌<◌, List, [], ◌∷◌, ◌++◌, Bool, true, false, length, refl, sym, ap, ap₂, ◌∙◌, subst, append_assoc, append-nil, length-append, arith, inl, inr, true≢false}
use Rattle.std.specs.Prelude.{MatchBool, ◌||◌}
use Rattle.definitions.specs.Values.{Text}
use Rattle.definitions.specs.Registries.{Reply}
use Rattle.http_definitions.specs.Heads.{is_last}
use Rattle.http_definitions.specs.ReplyTexts.{reply_text}
use Rattle.http_definitions.specs.Streams.{Message, without_line_ends, Spells, close, IsHopeless}
use Rattle.http_definitions.specs.Connections.{Answers, AnswersAll, Connection, holding, closed, Ends, Takes, reply_texts}
use Rattle.http_laws.proofs.Cutting.{cut, begins_on_behind}
use Rattle.http_laws.proofs.LineEnds.{dropped_all, left_with}
use Rattle.http_laws.proofs.Hopeless.{hopeless_on, hopeless_has_bytes}
use Rattle.http_laws.proofs.Pieces.{closes_on, holds_on}
use Rattle.connections.specs.Events.{IsSent}

-- ---- replies beside requests
pub pairs_of : {S : Type 0} (answers : Answers S) (ms : List Message) (rs : List Reply) (s t : S) → AnswersAll answers s ms rs t → length ms ≡ length rs
pairs_of answers [] [] s t x = refl
pairs_of answers [] (r ∷ rs) s t x = absurd x
pairs_of answers (m ∷ ms) [] s t x = absurd x
pairs_of answers (m ∷ ms) (r ∷ rs) s t x = omega (arith, pairs_of answers ms rs x.0 t x.2)

texts_with : (ms ns : List Message) (rs qs : List Reply) → length ms ≡ length rs
    → reply_texts (ms ++ ns) (rs ++ qs) ≡ reply_texts ms rs ++ reply_texts ns qs
texts_with [] ns [] qs e = refl
texts_with [] ns (r ∷ rs) qs e = absurd (omega (arith, e))
texts_with (m ∷ ms) ns [] qs e = absurd (omega (arith, e))
texts_with (m ∷ ms) ns (r ∷ rs) qs e =
    ap (λ y. reply_text (is_last m.head) r ++ y) (texts_with ms ns rs qs (omega (arith, e)))
    ∙ sym (append_assoc (reply_text (is_last m.head) r) (reply_texts ms rs) (reply_texts ns qs))

-- ---- a closed connection
pub rest_is_dropped : (a : Text) (ms : List Message) (r : Text) → Spells a ms r → without_line_ends r ≡ r
rest_is_dropped a [] r x = ap without_line_ends x ∙ dropped_all a ∙ sym x
rest_is_dropped a (m ∷ ms) r x = by (is_last m.head) x.2 (λ y. rest_is_dropped x.0 ms r y)
  where
    by : (t : Bool) → MatchBool t ((ms ≡ []) × (r ≡ without_line_ends x.0)) (Spells x.0 ms r) → (Spells x.0 ms r → without_line_ends r ≡ r)
        → without_line_ends r ≡ r
    by true y f = ap without_line_ends y.1 ∙ dropped_all x.0 ∙ sym y.1
    by false y f = f y

-- behind a last request no other is sought
last_on : (a p : Text) (ms : List Message) (r : Text) → Spells a ms r → close ms ≡ true → (s : Text) × Spells (a ++ p) ms s
last_on a p [] r x e = absurd (true≢false (sym e))
last_on a p (m ∷ ms) r x e = by (is_last m.head) refl x.2 e (λ y f. last_on x.0 p ms r y f)
  where
    by : (t : Bool) → is_last m.head ≡ t → MatchBool t ((ms ≡ []) × (r ≡ without_line_ends x.0)) (Spells x.0 ms r) → (t || close ms) ≡ true
        → (Spells x.0 ms r → close ms ≡ true → (s : Text) × Spells (x.0 ++ p) ms s) → (s : Text) × Spells (a ++ p) (m ∷ ms) s
    by true i y f go = (
      without_line_ends (x.0 ++ p),
      (
        x.0 ++ p,
        begins_on_behind a m x.0 p x.1,
        subst (λ t. MatchBool t ((ms ≡ []) × (without_line_ends (x.0 ++ p) ≡ without_line_ends (x.0 ++ p))) (Spells (x.0 ++ p) ms (without_line_ends (x.0 ++ p)))) (sym i) (y.0, refl),
      ),
    )
    by false i y f go =
        let more = go y f in (
          more.0,
          (
            x.0 ++ p,
            begins_on_behind a m x.0 p x.1,
            subst (λ t. MatchBool t ((ms ≡ []) × (more.0 ≡ without_line_ends (x.0 ++ p))) (Spells (x.0 ++ p) ms more.0)) (sym i) more.1,
          ),
        )

hopeless_length : (r : Text) → IsHopeless r → 0 < length r
hopeless_length [] h = absurd (hopeless_has_bytes h)
hopeless_length (b ∷ r) h = omega arith

pub closed_on : (a p : Text) (ms : List Message) (rs : List Reply) (out : Text) → IsSent a ms rs out closed → IsSent (a ++ p) ms rs out closed
closed_on a p ms rs out x = by (close ms) refl x.ends
  where
    by : (c : Bool) → close ms ≡ c → Ends c x.rest x.told closed → IsSent (a ++ p) ms rs out closed
    by true e y =
        let on = last_on a p ms x.rest x.spelled e in
        record { rest = on.0; told = x.told; spelled = on.1; paired = x.paired; ends = subst (λ c. Ends c on.0 x.told closed) (sym e) y; out_is = x.out_is }
    by false e y = elim y [
      | inl w ↦ absurd (cc w.2)
      | inr w ↦
          let dropped = rest_is_dropped a ms x.rest x.spelled in
          let some : 0 < length (without_line_ends x.rest) = subst (λ r. 0 < length r) (sym dropped) (hopeless_length x.rest w.0) in
          let same : x.rest ++ p ≡ without_line_ends (x.rest ++ p) = ap (λ r. r ++ p) (sym dropped) ∙ sym (left_with x.rest p some) in
          record {
            rest = x.rest ++ p;
            told = x.told;
            spelled = subst (λ ns. Spells (a ++ p) ns (x.rest ++ p)) (append-nil ms) (cut a p ms [] x.rest (x.rest ++ p) x.spelled e same);
            paired = x.paired;
            ends = subst (λ c. Ends c (x.rest ++ p) x.told closed) (sym e) (inr (hopeless_on x.rest p w.0, w.1, w.2));
            out_is = x.out_is;
          }
    ]

-- ---- an open one takes a piece
pub sent_on : {S : Type 0} (answers : Answers S) (a p : Text) (ms : List Message) (rs : List Reply) (first second held : Text) (now : Connection) (s t : S)
    → IsSent a ms rs first (holding held) → (y : Takes answers (held ++ p) s second now t)
    → IsSent (a ++ p) (ms ++ y.messages) (rs ++ y.replies) (first ++ second) now
sent_on answers a p ms rs first second held now s t x y =
    let ended = holds_on (close ms) x.rest x.told held x.ends in
    let same : close (ms ++ y.messages) ≡ close y.messages = closes_on ms y.messages ended.0 in
    let plain : first ≡ reply_texts ms rs = x.out_is ∙ ap (λ t. reply_texts ms rs ++ t) ended.1 ∙ append-nil _ in
    record {
      rest = y.rest;
      told = y.told;
      spelled = cut a p ms y.messages held y.rest (subst (λ r. Spells a ms r) (sym ended.2) x.spelled) ended.0 y.spelled;
      paired = omega (arith, x.paired, pairs_of answers y.messages y.replies s t y.answered, length-append ms y.messages, length-append rs y.replies);
      ends = subst (λ c. Ends c y.rest y.told now) (sym same) y.ends;
      out_is = ap₂ (λ f g. f ++ g) plain y.out_is
          ∙ sym (append_assoc (reply_texts ms rs) (reply_texts y.messages y.replies) y.told)
          ∙ ap (λ f. f ++ y.told) (sym (texts_with ms y.messages rs y.replies x.paired));
    }
