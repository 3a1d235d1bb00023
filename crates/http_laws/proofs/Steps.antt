-- What a connection has taken, step by step.
use Rattle.std.proofs.Common.{refl, sym, ◌∙◌, subst, append-nil, inl, inr, arith}
use Rattle.std.specs.Prelude.{◌≡◌, List, [], ◌∷◌, ◌++◌, Bool, true, false, ◌||◌, MatchBool}
use Rattle.definitions.specs.Values.{Text}
use Rattle.definitions.specs.Registries.{Reply}
use Rattle.http_definitions.specs.Heads.{is_last, key_of}
use Rattle.http_definitions.specs.Routes.{request_of}
use Rattle.http_definitions.specs.Streams.{Message, without_line_ends, BeginsWith, Spells, IsHopeless, IsWaiting}
use Rattle.http_definitions.specs.Connections.{Answers, AnswersAsked, Connection, holding, closed, Ends, Takes}
use Rattle.http_definitions.specs.ReplyTexts.{reply_text, closing_text}
use Rattle.http_laws.proofs.LineEnds.{head_has_bytes}
use Rattle.http_laws.proofs.Pieces.{takes_on}

pub nothing_waits : IsWaiting []
nothing_waits = inr (λ h rest reads. omega (arith, head_has_bytes [] h rest reads), omega arith, omega arith)

-- what waits is held
pub takes_waiting : {S : Type 0} (answers : Answers S) (bytes rest : Text) (s : S) → rest ≡ without_line_ends bytes → IsWaiting rest → Takes answers bytes s [] (holding rest) s
takes_waiting answers bytes rest s same waits =
    record { messages = []; replies = []; rest = rest; told = []; spelled = same; answered = refl; ends = inl (waits, refl, refl); out_is = refl }

-- line ends are dropped
pub takes_line_ends : {S : Type 0} (answers : Answers S) (bytes : Text) (s : S) → without_line_ends bytes ≡ [] → Takes answers bytes s [] (holding []) s
takes_line_ends answers bytes s none = takes_waiting answers bytes [] s (sym none) nothing_waits

pub takes_hopeless : {S : Type 0} (answers : Answers S) (bytes rest : Text) (s : S) → rest ≡ without_line_ends bytes → IsHopeless rest → Takes answers bytes s closing_text closed s
takes_hopeless answers bytes rest s same hopeless =
    record { messages = []; replies = []; rest = rest; told = closing_text; spelled = same; answered = refl; ends = inr (hopeless, refl, refl); out_is = refl }

last_or_not : (t : Bool) (more : Text)
    → MatchBool t (◌≡◌ {A = List Message} [] [] × (without_line_ends more ≡ without_line_ends more)) (Spells more [] (without_line_ends more))
last_or_not true more = (refl, refl)
last_or_not false more = refl

spelled_one : (bytes : Text) (m : Message) (more : Text) → BeginsWith (without_line_ends bytes) m more → Spells bytes (m ∷ []) (without_line_ends more)
spelled_one bytes m more b = (more, b, last_or_not (is_last m.head) more)

-- a last request closes the connection, whatever follows
pub takes_last : {S : Type 0} (answers : Answers S) (bytes : Text) (m : Message) (more : Text) (s t : S) (r : Reply)
    → BeginsWith (without_line_ends bytes) m more → is_last m.head ≡ true → AnswersAsked answers (key_of m.head) (request_of m.head m.body) s r t
    → Takes answers bytes s (reply_text (is_last m.head) r) closed t
takes_last answers bytes m more s t r begins last answered =
    record {
      messages = m ∷ [];
      replies = r ∷ [];
      rest = without_line_ends more;
      told = [];
      spelled = spelled_one bytes m more begins;
      answered = (t, answered, refl);
      ends = subst (λ b. Ends (b || false) (without_line_ends more) [] closed) (sym last) (refl, refl);
      out_is = sym (append-nil (reply_text (is_last m.head) r ++ []) ∙ append-nil (reply_text (is_last m.head) r));
    }

-- a request behind which nothing stands
pub takes_one : {S : Type 0} (answers : Answers S) (bytes : Text) (m : Message) (s t : S) (r : Reply)
    → BeginsWith (without_line_ends bytes) m [] → is_last m.head ≡ false → AnswersAsked answers (key_of m.head) (request_of m.head m.body) s r t
    → Takes answers bytes s (reply_text (is_last m.head) r) (holding []) t
takes_one answers bytes m s t r begins last answered =
    record {
      messages = m ∷ [];
      replies = r ∷ [];
      rest = [];
      told = [];
      spelled = spelled_one bytes m [] begins;
      answered = (t, answered, refl);
      ends = subst (λ b. Ends (b || false) [] [] (holding [])) (sym last) (inl (nothing_waits, refl, refl));
      out_is = sym (append-nil (reply_text (is_last m.head) r ++ []) ∙ append-nil (reply_text (is_last m.head) r));
    }

-- the next part of the bytes
pub takes_next : {S : Type 0} (answers : Answers S) (a p : Text) (s t u : S) (first second : Text) (now : Connection)
    → Takes answers a s first (holding []) t → Takes answers p t second now u → Takes answers (a ++ p) s (first ++ second) now u
takes_next answers a p s t u first second now x y = takes_on answers a p s t u first second [] now x y
