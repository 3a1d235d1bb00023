-- Numbers of documents, by the URIs of their resources.
use Rattle.std.proofs.Common.{◌≡◌, ◌≤◌, ◌<◌, ◌+◌, ◌++◌, ◌∷◌, [], ◌||◌, ℕ, suc, zero, Bool, true, false, cond, List, Option, Some, None, String, drop, take, length, is_some, refl, sym, ap, ◌∙◌, true≢false, arith}
use Rattle.std.proofs.Math.ListN.{drop_of_length-le}
use Rattle.std.proofs.lemmas.List.{drop-append-le, length-append, length-drop}
use Rattle.std.proofs.lemmas.Slice.Eq.{bytes_eq-Decides}
use Rattle.std.specs.BTreeMap.{BTreeMap, get_by_text}
use Rattle.std.specs.Global.{Global}
use Rattle.std.specs.List.{position_from}
use Rattle.definitions.specs.Values.{Text, same_text}
use Rattle.lemmas.proofs.Texts.{same_text_turned}
use Rattle.std.specs.Option.{option_or}

first_none : (o : Option ℕ) → o ≡ option_or o None
first_none None = refl
first_none (Some n) = refl

none_there : {X : Type 0} (o : Option X) → is_some o ≡ false → o ≡ None
none_there None e = refl
none_there (Some x) e = absurd (true≢false e)

-- ---- a number that is put where none stands
put_at : (b : Bool) (o : Option ℕ) (n : ℕ) → (b ≡ true → o ≡ None) → cond b (Some n) o ≡ option_or o (cond b (Some n) None)
put_at true o n none = ap (λ x. option_or x (Some n)) (sym (none refl))
put_at false o n none = first_none o

pub put_where_none : (old new : BTreeMap (String Global) ℕ) (uri other : Text) (n : ℕ) → ((t : Text) → get_by_text new t ≡ cond (same_text uri t) (Some n) (get_by_text old t))
    → is_some (get_by_text old uri) ≡ false → get_by_text new other ≡ option_or (get_by_text old other) (cond (same_text other uri) (Some n) None)
put_where_none old new uri other n put none =
    put other
    ∙ put_at (same_text uri other) (get_by_text old other) n (λ same. none_there (get_by_text old other) (ap (λ t. is_some (get_by_text old t)) (sym ((bytes_eq-Decides uri other).0 same)) ∙ none))
    ∙ ap (λ b. option_or (get_by_text old other) (cond b (Some n) None)) (same_text_turned uri other)

-- where one stands it stays
stays_at : (b : Bool) (o : Option ℕ) (n : ℕ) → (b ≡ true → is_some o ≡ true) → o ≡ option_or o (cond b (Some n) None)
stays_at true None n some = absurd (true≢false (sym (some refl)))
stays_at true (Some m) n some = refl
stays_at false o n some = first_none o

pub stays_where_some : (old : BTreeMap (String Global) ℕ) (uri other : Text) (n : ℕ) → is_some (get_by_text old uri) ≡ true
    → get_by_text old other ≡ option_or (get_by_text old other) (cond (same_text other uri) (Some n) None)
stays_where_some old uri other n some =
    stays_at (same_text other uri) (get_by_text old other) n (λ same. ap (λ t. is_some (get_by_text old t)) ((bytes_eq-Decides other uri).0 same) ∙ some)

-- one after the other
pub both_numbers : (o : Option ℕ) (a b : Bool) (n : ℕ) → option_or (option_or o (cond a (Some n) None)) (cond b (Some n) None) ≡ option_or o (cond (a || b) (Some n) None)
both_numbers (Some m) a b n = refl
both_numbers None true b n = refl
both_numbers None false b n = refl

-- ---- the first that passes
module _ {X : Type 0} (p : X → Bool) where
  cut_at : (b : Bool) (k : ℕ) (whole front rest : Option ℕ) → whole ≡ option_or front rest → cond b (Some k) whole ≡ option_or (cond b (Some k) front) rest
  cut_at true k whole front rest e = refl
  cut_at false k whole front rest e = e

  -- in front, or else behind
  pub position_cut : (n k : ℕ) (xs : List X) → position_from p k xs ≡ option_or (position_from p k (take n xs)) (position_from p (k + n) (drop n xs))
  position_cut zero k xs = ap (λ m. position_from p m xs) (omega arith)
  position_cut (suc n) k [] = refl
  position_cut (suc n) k (x ∷ xs) =
      cut_at (p x) k _ _ _ (position_cut n (k + 1) xs)
      ∙ ap (λ m. option_or (cond (p x) (Some k) (position_from p (k + 1) (take n xs))) (position_from p m (drop n xs))) (omega arith)

  -- of one more
  pub position_last : (k : ℕ) (xs : List X) (x : X) → position_from p k (xs ++ x ∷ []) ≡ option_or (position_from p k xs) (cond (p x) (Some (k + length xs)) None)
  position_last k [] x = ap (λ m. cond (p x) (Some m) None) (omega arith)
  position_last k (y ∷ ys) x =
      cut_at (p y) k _ _ _ (position_last (k + 1) ys x)
      ∙ ap (λ m. option_or (cond (p y) (Some k) (position_from p (k + 1) ys)) (cond (p x) (Some m) None)) (omega arith)

  -- behind the first n, of one more
  pub position_added : (n : ℕ) (xs : List X) (x : X) → n ≤ length xs
      → position_from p n (drop n (xs ++ x ∷ [])) ≡ option_or (position_from p n (drop n xs)) (cond (p x) (Some (length xs)) None)
  position_added n xs x l =
      ap (position_from p n) (drop-append-le n xs (x ∷ []) l)
      ∙ position_last n (drop n xs) x
      ∙ ap (λ m. option_or (position_from p n (drop n xs)) (cond (p x) (Some m) None)) (ap (λ m. n + m) (length-drop n xs) ∙ omega arith)

  -- where there are no more than n
  pub position_few : (n : ℕ) (xs : List X) (x : X) → length xs < n → position_from p n (drop n (xs ++ x ∷ [])) ≡ position_from p n (drop n xs)
  position_few n xs x l =
      ap (position_from p n) (drop_of_length-le (xs ++ x ∷ []) (omega (arith, length-append xs (x ∷ []), l)) ∙ sym (drop_of_length-le xs (omega (arith, l))))
