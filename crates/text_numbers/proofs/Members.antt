-- Members of lists of numbers: of those that pass a test, and of those that count up.
use Rattle.std.proofs.Common.{◌≡◌, ◌<◌, ◌+◌, ℕ, zero, suc, List, [], ◌∷◌, ◌++◌, Bool, true, false, cond, not, ◌||◌, ◌&&◌, Some, filter, length, refl, sym, ap, ◌∙◌, arith}
use Rattle.std.specs.Prelude.{slice_get}
use Rattle.std.specs.List.{list_all, list_any, range_with_len}
use Rattle.std.proofs.lemmas.List.Filters.{length-filter_both}

-- ---- a test
pub list_any_at : (p : ℕ → Bool) (ns : List ℕ) (a i : ℕ) → slice_get ns a ≡ Some i → p i ≡ true → list_any p ns ≡ true
list_any_at p [] a i is passes = cc
list_any_at p (n ∷ ns) zero i is passes =
    let same : n ≡ i = cc in
    rw (same, passes) refl
list_any_at p (n ∷ ns) (suc a) i is passes = elim (p n) as (λ b. (b || list_any p ns) ≡ true) [ true ↦ refl | false ↦ list_any_at p ns a i is passes ]

pub none_at : (p : ℕ → Bool) (ns : List ℕ) (a i : ℕ) → list_any p ns ≡ false → slice_get ns a ≡ Some i → p i ≡ false
none_at p ns a i none is =
    let Q : Bool → Type 0 = λ b. (p i ≡ b → b ≡ false) in
    (elim (p i) as Q [ true ↦ λ e. sym (list_any_at p ns a i is e) ∙ none | false ↦ λ e. refl ]) refl

pub all_at : (p : ℕ → Bool) (ns : List ℕ) (a i : ℕ) → list_all p ns ≡ true → slice_get ns a ≡ Some i → p i ≡ true
all_at p [] a i all is = cc
all_at p (n ∷ ns) a i all is =
    (elim (p n) as (λ b. p n ≡ b → (b && list_all p ns) ≡ true → p i ≡ true) [
      | true ↦ λ first others.
          (elim a as (λ k. slice_get (n ∷ ns) k ≡ Some i → p i ≡ true)
          [ zero ↦ λ e. let same : n ≡ i = cc in ap p (sym same) ∙ first | suc k ↦ λ e. all_at p ns k i others e ]) is
      | false ↦ λ first others. cc
    ]) refl all

-- ---- those that pass it
pub filter_keeps : (p : ℕ → Bool) (ns : List ℕ) (a i : ℕ) → slice_get ns a ≡ Some i → p i ≡ true → (b : ℕ) × (slice_get (filter p ns) b ≡ Some i)
filter_keeps p [] a i is passes = cc
filter_keeps p (n ∷ ns) zero i is passes =
    let same : n ≡ i = cc in
    (0, rw (same, passes) refl)
filter_keeps p (n ∷ ns) (suc a) i is passes =
    let later : (b : ℕ) × (slice_get (filter p ns) b ≡ Some i) = filter_keeps p ns a i is passes in
    elim (p n) as (λ b. (k : ℕ) × (slice_get (cond b (n ∷ filter p ns) (filter p ns)) k ≡ Some i))
    [ true ↦ (suc later.0, later.1) | false ↦ later ]

pub filter_takes : (p : ℕ → Bool) (ns : List ℕ) (b i : ℕ) → slice_get (filter p ns) b ≡ Some i → (a : ℕ) × (slice_get ns a ≡ Some i)
filter_takes p [] b i is = cc
filter_takes p (n ∷ ns) b i is =
    (elim (p n) as (λ t. slice_get (cond t (n ∷ filter p ns) (filter p ns)) b ≡ Some i → (a : ℕ) × (slice_get (n ∷ ns) a ≡ Some i)) [
      | true ↦ (elim b as (λ k. slice_get (n ∷ filter p ns) k ≡ Some i → (a : ℕ) × (slice_get (n ∷ ns) a ≡ Some i))
          [ zero ↦ λ e. (0, e) | suc k ↦ λ e. let earlier : (a : ℕ) × (slice_get ns a ≡ Some i) = filter_takes p ns k i e in (suc earlier.0, earlier.1) ])
      | false ↦ λ e. let earlier : (a : ℕ) × (slice_get ns a ≡ Some i) = filter_takes p ns b i e in (suc earlier.0, earlier.1)
    ]) is

-- ---- how many they are
pub some_pass : (p : ℕ → Bool) (ns : List ℕ) → list_any p ns ≡ true → 0 < length (filter p ns)
some_pass p [] some = cc
some_pass p (n ∷ ns) some =
    (elim (p n) as (λ t. (t || list_any p ns) ≡ true → 0 < length (cond t (n ∷ filter p ns) (filter p ns)))
    [ true ↦ λ e. omega arith | false ↦ λ e. some_pass p ns e ]) some

-- where some pass the test and some don't, both parts are shorter
pub fewer_pass : (p : ℕ → Bool) (ns : List ℕ) → list_any (λ n. not (p n)) ns ≡ true → length (filter p ns) < length ns
fewer_pass p ns others =
    let some = some_pass (λ n. not (p n)) ns others in
    omega (arith, length-filter_both p (λ n. not (p n)) (λ _. refl) ns)

pub fewer_fail : (p : ℕ → Bool) (ns : List ℕ) → list_any p ns ≡ true → length (filter (λ n. not (p n)) ns) < length ns
fewer_fail p ns others =
    let some = some_pass p ns others in
    omega (arith, length-filter_both p (λ n. not (p n)) (λ _. refl) ns)

-- ---- those that count up
pub range_more : (a n : ℕ) → range_with_len a (n + 1) ≡ range_with_len a n ++ (a + n) ∷ []
range_more a zero =
    let same : a ≡ a + 0 = omega arith in
    ap (λ k. k ∷ []) same
range_more a (suc n) =
    let next : (a + 1) + n ≡ a + suc n = omega arith in
    let count : suc n + 1 ≡ suc (n + 1) = omega arith in
    ap (range_with_len a) count ∙ ap (λ ns. a ∷ ns) (range_more (a + 1) n ∙ ap (λ k. range_with_len (a + 1) n ++ k ∷ []) next)

pub range_at : (a n i : ℕ) → i < n → slice_get (range_with_len a n) i ≡ Some (a + i)
range_at a zero i within = absurd (omega arith)
range_at a (suc n) zero within =
    let same : a ≡ a + 0 = omega arith in
    ap Some same
range_at a (suc n) (suc i) within =
    let next : (a + 1) + i ≡ a + suc i = omega arith in
    range_at (a + 1) n i (omega arith) ∙ ap Some next

pub range_below : (a n k i : ℕ) → slice_get (range_with_len a n) k ≡ Some i → i < a + n
range_below a zero k i is = cc
range_below a (suc n) zero i is =
    let same : a ≡ i = cc in
    omega arith
range_below a (suc n) (suc k) i is =
    let below = range_below (a + 1) n k i is in
    omega arith
