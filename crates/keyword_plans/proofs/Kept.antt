-- Lists and maps of what is kept, after something was put among it or not.
use Rattle.std.proofs.Common.{◌≡◌, List, [], ◌∷◌, ◌++◌, Bool, true, false, cond, Ordering, Result, Ok, Err, OnOk, OnErr, sym, subst}
use Rattle.std.proofs.lemmas.List.Elements.{All-append, All-cons, All-nil}
use Rattle.std.proofs.lemmas.Map.Views.{All-values-insert_entry}
use Rattle.std.specs.BTreeMap.{BTreeMap, insert_entry, values}
use Rattle.std.specs.List.{All}
use Rattle.std.specs.Map.{values_of}

pub all_pushed : {X : Type 0} (P : X → Type 0) (b : Bool) (x : X) (xs ys : List X) → ys ≡ cond b (xs ++ x ∷ []) xs → All P xs → P x → All P ys
all_pushed P true x xs ys e all one = subst (All P) (sym e) (All-append P xs (x ∷ []) all (All-cons P x [] one (All-nil P)))
all_pushed P false x xs ys e all one = subst (All P) (sym e) all

pub all_inserted : {K X A E : Type 0} (P : X → Type 0) (cmp : K → K → Ordering) (r : Result A E) (m n : BTreeMap K X) (k : K) (v : X)
    → OnOk r (n.entries ≡ insert_entry cmp m.entries k v) → OnErr r (n.entries ≡ m.entries) → All P (values m) → P v → All P (values n)
all_inserted P cmp (Ok a) m n k v e f all one = subst (λ es. All P (values_of es)) (sym e) (All-values-insert_entry cmp k v P m.entries all one)
all_inserted P cmp (Err a) m n k v e f all one = subst (λ es. All P (values_of es)) (sym f) all
