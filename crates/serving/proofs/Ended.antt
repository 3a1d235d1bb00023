-- A connection from its start to its end.
use Rattle.std.proofs.Common.{◌≡◌, ◌≢◌, ℕ, List, [], ◌==◌, Bool, true, false, Option, Some, None, Result, Ok, Err, Vec, refl, sym, ap, ◌∙◌, subst, inl, inr, eqb-true, eq-eqb, true≢false}
use Rattle.std.specs.Global.{Global}
use Rattle.definitions.specs.Values.{Text}
use Rattle.http_definitions.specs.Connections.{Answers, Connection, holding, last_words}
use Rattle.connections.specs.Connected.{IsOpened, IsEnded}
use Rattle.faults.specs.declared.Fault.{Fault}
use Rattle.serving.specs.Transfers.{Transfer}
use Rattle.serving.specs.declared.failure.Failure.{Failure}
use Rattle.serving.specs.declared.failure.Failure.TheVariants as failure
use Rattle.serving.specs.Writing.{TellsBytes, Writes, WritesSome}
use Rattle.serving.specs.Exchanges.{wire, Tells, HasEnded, IsLast}
use Rattle.serving.specs.Serving.{IsCutOff, as_failure, IsServed}
use Rattle.serving.proofs.Exchanged.{reads_nothing, words_told, words_broken}

-- ---- ids
pub opened_none : (c d : Option Connection) (u : Unit {0}) → IsOpened c (Ok u) d → c ≡ None
opened_none None d u x = refl
opened_none (Some c) d u x = absurd (cc x.0)

pub ended_none : (c d : Option Connection) (r : Result (Vec ℕ Global) Fault) → IsEnded c r d → d ≡ None
ended_none None d r x = x.1
ended_none (Some c) d (Ok out) x = x.1
ended_none (Some c) d (Err f) x = x.1

abbrev OthersAlike : ℕ → (ℕ → Option Connection) → (ℕ → Option Connection) → Type 0
OthersAlike id a b = (k : ℕ) → k ≢ id → b k ≡ a k

pub freed : (id : ℕ) (at first second third : ℕ → Option Connection) → at id ≡ None → third id ≡ None
    → OthersAlike id at first → OthersAlike id first second → OthersAlike id second third → (k : ℕ) → third k ≡ at k
freed id at first second third was is x y z k = by (k == id) refl
  where
    by : (b : Bool) → (k == id) ≡ b → third k ≡ at k
    by true e = let same : k ≡ id = eqb-true k id e in ap third same ∙ is ∙ sym was ∙ ap at (sym same)
    by false e =
        let other : k ≢ id = λ same. true≢false (sym (eq-eqb k id same) ∙ e) in
        z k other ∙ y k other ∙ x k other

-- ---- a connection that isn't opened
pub not_opened : {S : Type 0} (answers : Answers S) (c d : Option Connection) (s t : S) (reads writes : List Transfer) (f : Fault)
    → IsOpened c (Err f) d → t ≡ s → IsServed answers c (wire s reads writes) (Err (failure.Fault f)) (wire t reads writes)
not_opened answers (Some c) d s t reads writes f x e = (ap as_failure x.0, ap (λ u. wire u reads writes) e)
not_opened answers None d s t reads writes f x e =
    subst (λ u. IsServed answers None (wire s reads writes) (Err (failure.Fault f)) (wire u reads writes)) (sym e)
    (inl (inr (inr (x.0, inl (holding [], [], inl refl, reads_nothing answers (wire s reads writes))))))

-- ---- one that is cut off
last_of : (last : List Transfer) (now : Connection) → HasEnded last now → IsLast last
last_of last now x = elim x [
  | inl e ↦ inr e
  | inr e ↦ inl e.0
]

pub served_cut : {S : Type 0} (answers : Answers S) (c d : Option Connection) (u : Unit {0}) (s s1 s2 t : S) (reads writes more others : List Transfer) (f : Failure)
    → IsOpened c (Ok u) d → s1 ≡ s → t ≡ s2 → IsCutOff answers (wire s1 reads writes) f (wire s2 more others)
    → IsServed answers c (wire s reads writes) (Err f) (wire t more others)
served_cut answers (Some c) d u s s1 s2 t reads writes more others f x e h y = absurd (cc x.0)
served_cut answers None d u s s1 s2 t reads writes more others f x e h y =
    subst (λ v. IsCutOff answers (wire v reads writes) f (wire t more others)) e
    (subst (λ v. IsCutOff answers (wire s1 reads writes) f (wire v more others)) (sym h) y)

-- its last words couldn't be made
pub words_lack_room : {S : Type 0} (answers : Answers S) (d e : Option Connection) (now : Connection) (last : List Transfer) (s t : S) (reads writes more others : List Transfer) (f : Fault)
    → d ≡ Some now → HasEnded last now → Tells answers (wire s reads writes) last now (wire t more others) → IsEnded d (Err f) e
    → IsCutOff answers (wire s reads writes) (failure.Fault f) (wire t more others)
words_lack_room answers d e now last s t reads writes more others f at ended x y =
    let lacks = subst (λ k. IsEnded k (Err f) e) at y in
    inl (inr (inr (lacks.0, inl (now, last, last_of last now ended, x))))

-- ---- one that came to its end
pub words_of : (c e : Option Connection) (now : Connection) (out : Vec ℕ Global) → c ≡ Some now → IsEnded c (Ok out) e → out.items ≡ last_words now
words_of c e now out at x = (subst (λ k. IsEnded k (Ok out) e) at x).0

pub served_words : {S : Type 0} (answers : Answers S) (c d : Option Connection) (u : Unit {0}) (now : Connection) (last : List Transfer) (s s1 s2 t : S)
    (reads writes more others ends : List Transfer) (words : Text) (r : Result (Unit {0}) Failure)
    → IsOpened c (Ok u) d → s1 ≡ s → t ≡ s2 → HasEnded last now → Tells answers (wire s1 reads writes) last now (wire s2 more others)
    → words ≡ last_words now → TellsBytes others words r ends → IsServed answers c (wire s reads writes) r (wire t more ends)
served_words answers (Some c) d u now last s s1 s2 t reads writes more others ends words r x e h ended y w z = absurd (cc x.0)
served_words answers None d u now last s s1 s2 t reads writes more others ends words (Ok v) x e h ended y w z =
    subst (λ v. IsServed answers None (wire v reads writes) (Ok tt) (wire t more ends)) e
    (subst (λ v. IsServed answers None (wire s1 reads writes) (Ok tt) (wire v more ends)) (sym h)
    (now, last, ended, words_told answers (wire s1 reads writes) last now s2 more others ends y (subst (λ b. Writes others b ends) w z)))
served_words answers None d u now last s s1 s2 t reads writes more others ends words (Err f) x e h ended y w z =
    subst (λ v. IsCutOff answers (wire v reads writes) f (wire t more ends)) e
    (subst (λ v. IsCutOff answers (wire s1 reads writes) f (wire v more ends)) (sym h)
    (subst (λ e0. IsCutOff answers (wire s1 reads writes) e0 (wire s2 more ends)) (sym z.0) (inl (inr (inl (refl, now, last, last_of last now ended, words_broken answers (wire s1 reads writes) last now s2 more others ends y (subst (λ b. WritesSome others b ends) w z.1)))))))
