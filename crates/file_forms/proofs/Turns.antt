-- Files and paths whose documents are gathered, one after the other.
use Rattle.std.proofs.Common.{◌≡◌, ◌∙◌, ◌++◌, ◌∷◌, [], ◌&&◌, Bool, true, false, List, refl, sym, subst}
use Rattle.file_forms.specs.Gathered.{Gathering, InTurn}

pub one_more_turn : {A : Type 0} (Step : A → Gathering → Gathering → Type 0) (xs : List A) (x : A) (r s t : Gathering) → InTurn Step xs r s → Step x s t → InTurn Step (xs ++ x ∷ []) r t
one_more_turn Step [] x r s t e step = (t, subst (λ u. Step x u t) e step, refl)
one_more_turn Step (y ∷ ys) x r s t (between, first, rest) step = (between, first, one_more_turn Step ys x between s t rest step)

-- both are so, where both are well
pub both_first : (a b : Bool) → (a && b) ≡ true → a ≡ true
both_first true b e = refl
both_first false b e = e

pub both_second : (a b : Bool) → (a && b) ≡ true → b ≡ true
both_second true b e = e
both_second false b e = absurd (let no : false ≡ true = e in cc)
