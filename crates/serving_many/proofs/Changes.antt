-- What calls on one connection change.
use Rattle.std.proofs.Common.{◌≡◌, ℕ, List, [], ◌∷◌, ◌++◌, false, Option, Some, None, Result, Ok, Err, Vec, refl, sym, ap, ◌∙◌, subst, true≢false}
use Rattle.std.specs.Global.{Global}
use Rattle.definitions.specs.Values.{Text}
use Rattle.http_definitions.specs.Connections.{Answers, Connection, holding, closed, last_words}
use Rattle.faults.specs.declared.Fault.{Fault}
use Rattle.connections.specs.Views.{Feeds, FeedsSome, is_closed}
use Rattle.connections.specs.Connected.{IsOpened, IsFed, IsEnded, is_closed_at}
use Rattle.connections.specs.Events.{Event, Change, opens, feeds, stops, ends, breaks, Standing, unopened, served, short, ended, lost, IsChange, Happen}
use Rattle.connections.proofs.Standings.{put_at, put_here, put_elsewhere}
use Rattle.serving_many.specs.Going.{Stands}

-- ---- one more event
pub happens_on : {S : Type 0} (answers : Answers S) (es : List Event) (at mid : ℕ → Standing) (s u t : S) (id : ℕ) (c : Change) (x : Standing)
    → Happen answers at s es mid u → IsChange answers (mid id) u c x t → Happen answers at s (es ++ record { connection = id; change = c } ∷ []) (put_at id x mid) t
happens_on {S} answers [] at mid s u t id c x h y = (
  put_at id x mid,
  t,
  rw (put_here id x mid) (subst (λ v. IsChange answers (at id) v c x t) h.1 (subst (λ v. IsChange answers v u c x t) (h.0 id) y)),
  λ k ne. put_elsewhere id k x mid ne ∙ h.0 k,
  (λ k. refl, refl),
)
happens_on answers (e ∷ es) at mid s u t id c x h y = (h.0, h.1, h.2, h.3, happens_on answers es h.0 mid h.1 u t id c x h.4 y)

-- ---- one connection's change, if any
abbrev pub IsNext : {S : Type 0} → Answers S → Standing → S → Option Change → Option Connection → S → Type 0
IsNext answers at s None c t = Stands at c × (t ≡ s)
IsNext answers at s (Some change) c t = (x : Standing) × IsChange answers at s change x t × Stands x c

no_none : {A : Type 0} (x : A) → Some x ≡ None → ⊥
no_none x e = cc (e)

same_some : {A : Type 0} (x y : A) → Some x ≡ Some y → x ≡ y
same_some x y e = cc (e)

-- ---- its end
abbrev pub change_of_end : Option Connection → Result (Vec ℕ Global) Fault → Option Change
change_of_end None r = None
change_of_end (Some c) (Ok out) = Some (ends out.items)
change_of_end (Some c) (Err f) = Some breaks

pub ends_so : {S : Type 0} (answers : Answers S) (s : S) (at : Standing) (c now : Option Connection) (r : Result (Vec ℕ Global) Fault)
    → Stands at c → IsEnded c r now → IsNext answers at s (change_of_end c r) now s
ends_so answers s at None now r x e = (subst (Stands at) (sym e.1) x, refl)
ends_so answers s unopened (Some c) now r x e = absurd (no_none c x)
ends_so answers s ended (Some c) now r x e = absurd (no_none c x)
ends_so answers s lost (Some c) now r x e = absurd (no_none c x)
ends_so answers s (served d) (Some c) now (Ok out) x e = (ended, (refl, e.0 ∙ ap last_words (same_some c d x), refl), e.1)
ends_so answers s (served d) (Some c) now (Err f) x e = (lost, (refl, refl), e.1)
ends_so answers s short (Some c) now (Ok out) x e = (lost, (refl, e.0 ∙ ap last_words (same_some c closed x), refl), e.1)
ends_so answers s short (Some c) now (Err f) x e = (lost, (refl, refl), e.1)

pub gone_at_end : (c now : Option Connection) (r : Result (Vec ℕ Global) Fault) → IsEnded c r now → now ≡ None
gone_at_end None now r e = e.1
gone_at_end (Some c) now (Ok out) e = e.1
gone_at_end (Some c) now (Err f) e = e.1

-- ---- a piece
abbrev pub change_of_piece : Text → Text → Result (Unit {0}) Fault → Change
change_of_piece piece out (Ok u) = feeds piece out
change_of_piece piece out (Err f) = stops piece

pub feeds_so : {S : Type 0} (answers : Answers S) (s t : S) (at : Standing) (c now : Option Connection) (piece out : Text) (r : Result (Unit {0}) Fault)
    → Stands at c → is_closed_at c ≡ false → IsFed answers c piece s r out now t → IsNext answers at s (Some (change_of_piece piece out r)) now t
feeds_so answers s t at None now piece out r x o e = absurd (true≢false o)
feeds_so answers s t unopened (Some c) now piece out r x o e = absurd (no_none c x)
feeds_so answers s t ended (Some c) now piece out r x o e = absurd (no_none c x)
feeds_so answers s t lost (Some c) now piece out r x o e = absurd (no_none c x)
feeds_so answers s t short (Some c) now piece out r x o e = absurd (true≢false (sym (ap is_closed (same_some c closed x)) ∙ o))
feeds_so answers s t (served d) (Some c) now piece out (Ok u) x o e =
    (served e.0, (e.0, refl, subst (λ v. Feeds answers v piece s out e.0 t) (same_some c d x) e.2), e.1)
feeds_so answers s t (served d) (Some c) now piece out (Err f) x o e =
    (short, (refl, subst (λ v. FeedsSome answers v piece s t) (same_some c d x) e.2), e.1)

-- ---- its opening
pub opens_so : {S : Type 0} (answers : Answers S) (s : S) (c now : Option Connection) (u : Unit {0}) → c ≡ None → IsOpened c (Ok u) now → IsNext answers unopened s (Some opens) now s
opens_so answers s None now u e x = (served (holding []), (refl, refl), x)
opens_so answers s (Some c) now u e x = absurd (no_none c e)

pub opens_not : (c now : Option Connection) (f : Fault) → c ≡ None → IsOpened c (Err f) now → now ≡ None
opens_not None now f e x = x.1
opens_not (Some c) now f e x = absurd (no_none c e)
