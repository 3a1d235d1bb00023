-- Texts that agree, and texts that are the same.
use Rattle.std.proofs.Common.{◌≡◌, ◌<◌, ◌≤◌, ◌+◌, ℕ, suc, List, [], ◌∷◌, Bool, true, false, Some, filter, get_or, length, nat_lt, refl, sym, ap, ap₂, ◌∙◌, arith}
use Rattle.std.specs.Prelude.{slice_get}
use Rattle.std.proofs.lemmas.Bool.{eqb-true}
use Rattle.std.proofs.lemmas.Option.{slice_get-get_or}
use Rattle.std.proofs.lemmas.Bool.Decides.{nat_tests}
use Rattle.definitions.specs.Values.{Text}
use Rattle.text_numbers.proofs.Members.{all_at, fewer_fail, fewer_pass, filter_takes, none_at, range_below}
use Rattle.std.specs.List.{list_all, list_any, range_with_len}
use Rattle.text_numbers.specs.Places.{AgreeAt, AreAlike, AreSame, Divides, has_value, is_above, is_below, is_side, place_value, value_of}

pub same_places : (s t : Text) → ((k : ℕ) → k ≤ length s → place_value s k ≡ place_value t k) → s ≡ t
same_places [] [] agree = refl
same_places [] (y ∷ ys) agree =
    let e : 0 ≡ y + 1 = agree 0 (omega arith) in
    absurd (omega arith)
same_places (x ∷ xs) [] agree =
    let e : x + 1 ≡ 0 = agree 0 (omega arith) in
    absurd (omega arith)
same_places (x ∷ xs) (y ∷ ys) agree =
    let e : x + 1 ≡ y + 1 = agree 0 (omega arith) in
    let first : x ≡ y = omega arith in
    ap₂ (λ b bs. b ∷ bs) first (same_places xs ys (λ k le. agree (suc k) (omega arith)))

-- what a number's text has
pub value_is : (texts : List Text) (position i : ℕ) (text : Text) → slice_get texts i ≡ Some text → value_of texts position i ≡ place_value text position
value_is texts position i text is = rw is refl

-- ---- fewer numbers
pub alike_part : (p : ℕ → Bool) (texts : List Text) (numbers : List ℕ) (from : ℕ) → AreAlike texts numbers from → AreAlike texts (filter p numbers) from
alike_part p texts numbers from alike =
    record {
      within = λ a i is. let whole = filter_takes p numbers a i is in alike.within whole.0 i whole.1;
      alike = λ position before. record {
        agree = λ a b i j is js.
            let first = filter_takes p numbers a i is in
            let second = filter_takes p numbers b j js in
            (alike.alike position before).agree first.0 second.0 i j first.1 second.1;
      };
    }

-- ---- at first nothing is known
pub alike_at_first : (texts : List Text) → AreAlike texts (range_with_len 0 (length texts)) 0
alike_at_first texts =
    record {
      within = λ a i is. let below = range_below 0 (length texts) a i is in omega arith;
      alike = λ position before. absurd (omega arith);
    }

-- ---- at last the texts are the same
pub same_at_last : (texts : List Text) (numbers : List ℕ) (from first : ℕ) (text : Text) → AreAlike texts numbers from
    → slice_get numbers 0 ≡ Some first → slice_get texts first ≡ Some text → length text < from → AreSame texts numbers
same_at_last texts numbers from first text alike head is ends =
    let as_first : (a i : ℕ) → slice_get numbers a ≡ Some i → slice_get texts i ≡ Some text =
    λ a i at.
    let here : slice_get texts i ≡ Some (get_or texts i text) = slice_get-get_or texts i text (alike.within a i at) in
    let same : text ≡ get_or texts i text = same_places text (get_or texts i text)
    (λ k le. sym (value_is texts k first text is) ∙ (alike.alike k (omega arith)).agree 0 a first i head at ∙ value_is texts k i (get_or texts i text) here) in
    here ∙ ap Some (sym same) in
    record { same = λ a b i j at bt. as_first a i at ∙ sym (as_first b j bt) }

pub same_at_end : (texts : List Text) (numbers : List ℕ) (from end : ℕ) → AreAlike texts numbers from → 0 < length numbers
    → ((number : ℕ) (text : Text) → slice_get numbers 0 ≡ Some number → slice_get texts number ≡ Some text → end ≡ length text + 1)
    → end ≤ from → AreSame texts numbers
same_at_end texts numbers from end alike some ends passed =
    let first = get_or numbers 0 0 in
    let head = slice_get-get_or numbers 0 0 some in
    let is = slice_get-get_or texts first [] (alike.within 0 first head) in
    let last = ends first (get_or texts first []) head is in
    same_at_last texts numbers from first (get_or texts first []) alike head is (omega arith)

-- none has less than a value, and none more
pub agree_at : (texts : List Text) (numbers : List ℕ) (position value : ℕ) → list_any (is_below texts position value) numbers ≡ false
    → list_any (is_above texts position value) numbers ≡ false → AgreeAt texts numbers position
agree_at texts numbers position value no_less no_more =
    let has_value : (a i : ℕ) → slice_get numbers a ≡ Some i → value_of texts position i ≡ value =
    λ a i at.
    let not_less : nat_lt (value_of texts position i) value ≡ false = none_at (is_below texts position value) numbers a i no_less at in
    let not_more : nat_lt value (value_of texts position i) ≡ false = none_at (is_above texts position value) numbers a i no_more at in
    grind (arith, nat_tests, not_less, not_more) in
    record { agree = λ a b i j at bt. has_value a i at ∙ sym (has_value b j bt) }

-- all have a value
pub agree_level : (texts : List Text) (numbers : List ℕ) (position value : ℕ) → list_all (has_value texts position value) numbers ≡ true → AgreeAt texts numbers position
agree_level texts numbers position value all =
    let has : (a i : ℕ) → slice_get numbers a ≡ Some i → value_of texts position i ≡ value =
    λ a i at. eqb-true (value_of texts position i) value (all_at (has_value texts position value) numbers a i all at) in
    record { agree = λ a b i j at bt. has a i at ∙ sym (has b j bt) }

-- ---- the two parts of divided numbers
pub part_falls : (texts : List Text) (numbers part : List ℕ) (position bound : ℕ) (below : Bool) → Divides texts numbers position bound
    → part ≡ filter (is_side texts position bound below) numbers → length part < length numbers
part_falls texts numbers part position bound true divides is =
    rw is (fewer_pass (is_below texts position bound) numbers divides.rest)
part_falls texts numbers part position bound false divides is =
    rw is (fewer_fail (is_below texts position bound) numbers divides.below)

pub part_alike : (p : ℕ → Bool) (texts : List Text) (numbers part : List ℕ) (position bound : ℕ) → Divides texts numbers position bound
    → part ≡ filter p numbers → AreAlike texts part position
part_alike p texts numbers part position bound divides is = rw is (alike_part p texts numbers position divides.alike)
