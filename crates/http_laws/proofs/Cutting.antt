-- How a stream is cut decides nothing.
use Rattle.std.proofs.Common.{refl, sym, ap, ◌∙◌, subst, append_assoc, true≢false}
use Rattle.std.specs.Prelude.{◌≡◌, List, [], ◌∷◌, ◌++◌, Bool, true, false, ◌||◌, MatchBool}
use Rattle.httparse.specs.Grammar.{ReadsRequest}
use Rattle.httparse.proofs.GrammarLemmas.{ReadsRequest-append}
use Rattle.definitions.specs.Values.{Text}
use Rattle.http_definitions.specs.Heads.{is_last}
use Rattle.http_definitions.specs.Streams.{Message, without_line_ends, BeginsWith, Spells, close}
use Rattle.http_laws.proofs.LineEnds.{dropped_twice, left_with, head_has_bytes}

-- ---- the request at the front stays
pub begins_on : (bytes : Text) (m : Message) (more p : Text) → BeginsWith bytes m more → BeginsWith (bytes ++ p) m (more ++ p)
begins_on bytes m more p b =
    let longer = ReadsRequest-append bytes m.head (m.body ++ more) p b.0.0 in
    ((subst (λ t. ReadsRequest (bytes ++ p) m.head t) (append_assoc m.body more p) longer, b.0.1), b.1)

pub begins_on_behind : (a : Text) (m : Message) (more p : Text) → BeginsWith (without_line_ends a) m more → BeginsWith (without_line_ends (a ++ p)) m (more ++ p)
begins_on_behind a m more p b =
    subst (λ t. BeginsWith t m (more ++ p)) (sym (left_with a p (head_has_bytes _ m.head _ b.0.0))) (begins_on _ m more p b)

-- ---- cutting: what two pieces spell is what they spell together
spells_from : (a b : Text) (ns : List Message) (s : Text) → without_line_ends a ≡ without_line_ends b → Spells a ns s → Spells b ns s
spells_from a b [] s e x = x ∙ e
spells_from a b (n ∷ ns) s e x = (x.0, subst (λ t. BeginsWith t n x.0) e x.1, x.2)

goes_on : (t : Bool) (ms : List Message) (rest more : Text) → (t || close ms) ≡ false
    → MatchBool t ((ms ≡ []) × (rest ≡ without_line_ends more)) (Spells more ms rest) → (t ≡ false) × (close ms ≡ false) × Spells more ms rest
goes_on true ms rest more e x = absurd (true≢false e)
goes_on false ms rest more e x = (refl, e, x)

pub cut : (a p : Text) (ms ns : List Message) (r s : Text) → Spells a ms r → close ms ≡ false → Spells (r ++ p) ns s → Spells (a ++ p) (ms ++ ns) s
cut a p [] ns r s x unclosed y =
    spells_from (r ++ p) (a ++ p) ns s (ap (λ t. without_line_ends (t ++ p)) x ∙ dropped_twice a p) y
cut a p (m ∷ ms) ns r s x unclosed y =
    let on = goes_on (is_last m.head) ms r x.0 unclosed x.2 in
    (x.0 ++ p, begins_on_behind a m x.0 p x.1, subst (λ t. MatchBool t ((ms ++ ns ≡ []) × (s ≡ without_line_ends (x.0 ++ p))) (Spells (x.0 ++ p) (ms ++ ns) s)) (sym on.0) (cut x.0 p ms ns r s on.2 on.1 y))
