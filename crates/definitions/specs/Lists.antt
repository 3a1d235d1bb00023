-- Lists and options.
use Rattle.std.specs.Prelude.{Bool, List, None, Option, Some, false, option_and_then, option_map, ◌∷◌, ◌||◌, [], if◌then◌else◌, ℕ}
use Rattle.std.specs.List.{list_any}

-- ---- lists of one element or none
-- the element where the test passes
abbrev pub when : {A : Type 0} → Bool → A → List A
when b x = if b then x ∷ [] else []

-- the element where the test fails
abbrev pub unless : {A : Type 0} → Bool → A → List A
unless b x = if b then [] else x ∷ []

abbrev pub option_list : {A : Type 0} → Option A → List A
option_list None = []
option_list (Some x) = x ∷ []

abbrev pub first : {A : Type 0} → List A → Option A
first [] = None
first (x ∷ xs) = Some x

-- ---- several elements
-- what each element gives, where each gives something
abbrev pub each : {A B : Type 0} → (A → Option B) → List A → Option (List B)
each f [] = Some []
each f (x ∷ xs) = option_and_then (λ y. option_map (λ ys. y ∷ ys) (each f xs)) (f x)

-- some two of the list are the same
abbrev pub has_repeat : {A : Type 0} → (A → A → Bool) → List A → Bool
has_repeat alike [] = false
has_repeat alike (x ∷ xs) = list_any (alike x) xs || has_repeat alike xs

-- what stands before the first such element, and what follows it, where there is one
abbrev pub cut_at : (ℕ → Bool) → List ℕ → List ℕ × Option (List ℕ)
cut_at p [] = ([], None)
cut_at p (c ∷ cs) = if p c then ([], Some cs) else (let r = cut_at p cs in (c ∷ r.0, r.1))

-- what stands before the first such element, and the rest, which begins with it
abbrev pub split_before : (ℕ → Bool) → List ℕ → List ℕ × List ℕ
split_before p [] = ([], [])
split_before p (c ∷ cs) = if p c then ([], c ∷ cs) else (let r = split_before p cs in (c ∷ r.0, r.1))
