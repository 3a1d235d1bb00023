-- Two pieces, one after the other.
use Rattle.std.proofs.Common.{refl, sym, ap, ap₂, ◌∙◌, subst, append_assoc, append-nil, true≢false, inl, inr}
use Rattle.std.specs.Prelude.{◌≡◌, List, [], ◌∷◌, ◌++◌, Bool, true, false, ◌||◌}
use Rattle.definitions.specs.Values.{Text}
use Rattle.definitions.specs.Registries.{Reply}
use Rattle.http_definitions.specs.Heads.{is_last}
use Rattle.http_definitions.specs.Streams.{Message, Spells, close}
use Rattle.http_definitions.specs.Connections.{Answers, AnswersAll, reply_texts, Connection, holding, Ends, Takes}
use Rattle.http_definitions.specs.ReplyTexts.{reply_text}
use Rattle.http_laws.proofs.Cutting.{cut}

-- ---- replies to two pieces
pub answers_on : {S : Type 0} (answers : Answers S) (ms ns : List Message) (rs qs : List Reply) (s t u : S)
    → AnswersAll answers s ms rs t → AnswersAll answers t ns qs u → AnswersAll answers s (ms ++ ns) (rs ++ qs) u
answers_on answers [] ns [] qs s t u x y = subst (λ (a : _). AnswersAll answers a ns qs u) x y
answers_on answers [] ns (r ∷ rs) qs s t u x y = absurd x
answers_on answers (m ∷ ms) ns [] qs s t u x y = absurd x
answers_on answers (m ∷ ms) ns (r ∷ rs) qs s t u x y = (x.0, x.1, answers_on answers ms ns rs qs x.0 t u x.2 y)

pub texts_on : {S : Type 0} (answers : Answers S) (ms ns : List Message) (rs qs : List Reply) (s t : S) → AnswersAll answers s ms rs t
    → reply_texts (ms ++ ns) (rs ++ qs) ≡ reply_texts ms rs ++ reply_texts ns qs
texts_on answers [] ns [] qs s t x = refl
texts_on answers [] ns (r ∷ rs) qs s t x = absurd x
texts_on answers (m ∷ ms) ns [] qs s t x = absurd x
texts_on answers (m ∷ ms) ns (r ∷ rs) qs s t x =
    ap (λ y. reply_text (is_last m.head) r ++ y) (texts_on answers ms ns rs qs x.0 t x.2)
    ∙ sym (append_assoc (reply_text (is_last m.head) r) (reply_texts ms rs) (reply_texts ns qs))

-- a connection that holds bytes still has met no last request
pub holds_on : (c : Bool) (rest told held : Text) → Ends c rest told (holding held) → (c ≡ false) × (told ≡ []) × (held ≡ rest)
holds_on true rest told held e = cc e.1
holds_on false rest told held e = elim e [
  | inl x ↦ (refl, x.1, cc x.2)
  | inr x ↦ cc x.2
]

pub closes_on : (ms ns : List Message) → close ms ≡ false → close (ms ++ ns) ≡ close ns
closes_on [] ns e = refl
closes_on (m ∷ ms) ns e = by (is_last m.head) e (λ f. closes_on ms ns f)
  where
    by : (t : Bool) → (t || close ms) ≡ false → (close ms ≡ false → close (ms ++ ns) ≡ close ns) → (t || close (ms ++ ns)) ≡ close ns
    by true e f = absurd (true≢false e)
    by false e f = f e

-- A connection that takes two pieces one after the other takes them as one.
pub takes_on : {S : Type 0} (answers : Answers S) (a p : Text) (s t u : S) (first second held : Text) (now : Connection)
    → Takes answers a s first (holding held) t → Takes answers (held ++ p) t second now u → Takes answers (a ++ p) s (first ++ second) now u
takes_on answers a p s t u first second held now x y =
    let ended = holds_on (close x.messages) x.rest x.told held x.ends in
    let same : close (x.messages ++ y.messages) ≡ close y.messages = closes_on x.messages y.messages ended.0 in
    let plain : first ≡ reply_texts x.messages x.replies = x.out_is ∙ ap (λ t. reply_texts x.messages x.replies ++ t) ended.1 ∙ append-nil _ in
    record {
      messages = x.messages ++ y.messages;
      replies = x.replies ++ y.replies;
      rest = y.rest;
      told = y.told;
      spelled = cut a p x.messages y.messages held y.rest (subst (λ r. Spells a x.messages r) (sym ended.2) x.spelled) ended.0 y.spelled;
      answered = answers_on answers x.messages y.messages x.replies y.replies s t u x.answered y.answered;
      ends = subst (λ c. Ends c y.rest y.told now) (sym same) y.ends;
      out_is = ap₂ (λ f g. f ++ g) plain y.out_is
          ∙ sym (append_assoc (reply_texts x.messages x.replies) (reply_texts y.messages y.replies) y.told)
          ∙ ap (λ f. f ++ y.told) (sym (texts_on answers x.messages y.messages x.replies y.replies s t x.answered));
    }
