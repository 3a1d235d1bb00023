-- What the tests of an option tell, and its image.
use Rattle.std.proofs.Common.{◌≡◌, ◌≤◌, ℕ, Bool, true, false, cond, Option, Some, None, is_none, is_some, option_map, nat_lt, refl, sym, true≢false}
use Rattle.std.proofs.lemmas.Bool.{ltb-false}

pub none_from_is_none : {A : Type 0} (o : Option A) → is_none o ≡ true → o ≡ None
none_from_is_none None e = refl
none_from_is_none (Some x) e = absurd (true≢false (sym e))

pub some_from_is_some : {A : Type 0} (o : Option A) → is_some o ≡ true → (x : A) × (o ≡ Some x)
some_from_is_some None e = absurd (true≢false (sym e))
some_from_is_some (Some x) e = (x, refl)

pub option_map-twice : {X Y Z : Type 0} (g : Y → Z) (f : X → Y) (o : Option X) → option_map (λ x. g (f x)) o ≡ option_map g (option_map f o)
option_map-twice g f None = refl
option_map-twice g f (Some x) = refl

pub is_some-map : {X Y : Type 0} (f : X → Y) (o : Option X) → is_some (option_map f o) ≡ is_some o
is_some-map f None = refl
is_some-map f (Some x) = refl

-- a place that is given only within a bound
pub past_from_none : (n m : ℕ) (b : Bool) → nat_lt n m ≡ b → cond b (Some n) None ≡ None → m ≤ n
past_from_none n m true e h = cc
past_from_none n m false e h = ltb-false n m e
