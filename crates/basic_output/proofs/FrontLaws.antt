-- The texts of steps, as steps come and go.
use Rattle.std.proofs.Common.{◌≡◌, ◌≤◌, ◌<◌, ◌&&◌, ◌++◌, ◌∷◌, [], ℕ, zero, suc, List, Bool, true, false, length, take, drop, get_or, min, refl, subst, sym, ap, ap₂, ◌∙◌, arith, inl, inr}
use Rattle.std.proofs.Math.ListN.{get_or-append}
use Rattle.std.proofs.Math.Nat.{eq-or-lt_of_le}
use Rattle.std.proofs.Math.Seq.{drop-append_seam, get_or-append_seam, take-append_seam, take-length, take-suc}
use Rattle.std.proofs.lemmas.List.{append_cancel_left, drop-map, drop_all, get_or-take, get_or_default, length-append, length-drop, length-map, length-take, map-append, take-append-drop, take-append-le, take-take}
use Rattle.std.specs.Prelude.{if◌then◌else◌}
use Rattle.std.specs.List.{list_all, slice_index}
use Rattle.definitions.specs.Values.{Text}
use Rattle.locations.specs.Steps.{token, tokens}
use Rattle.locations.specs.declared.step.Step.{Step}
use Rattle.basic_output.specs.Notations.{IsPushed, escaped_text}
use Rattle.basic_output.specs.StepTexts.{AreTexts, front_text}
use Rattle.basic_output.specs.Pieces.{are_plain, is_plain}
use Rattle.basic_output.specs.declared.unit_text.step_texts.Notation.{Notation}
use Rattle.basic_output.specs.declared.unit_text.step_texts.Notation.TheVariants as notation
use Rattle.basic_output.proofs.PlainLaws.{kept_append, kept_led, kept_none, plain_kept}

abbrev IsPlain : Step → Type 0
IsPlain s = list_all is_plain (token s) ≡ true

-- ---- one step more, and steps less
front_next : (n : Notation) (k : ℕ) (xs : List Step) (x : Step) → k < length xs → x ≡ get_or xs k x → front_text n (suc k) xs ≡ front_text n k xs ++ escaped_text n (token x ∷ [])
front_next n k xs x less is =
    ap (λ ys. escaped_text n (tokens ys)) (take-suc xs k x less ∙ ap (λ y. take k xs ++ y ∷ []) (sym is)) ∙ ap (escaped_text n) (map-append token (take k xs) (x ∷ []))
    ∙ kept_append n (tokens (take k xs)) (token x ∷ [])

-- the first ones and the rest
parts : (n : Notation) (k : ℕ) (xs : List Step) → escaped_text n (tokens xs) ≡ front_text n k xs ++ escaped_text n (tokens (drop k xs))
parts n k xs = ap (escaped_text n) (ap tokens (sym (take-append-drop k xs)) ∙ map-append token (take k xs) (drop k xs)) ∙ kept_append n (tokens (take k xs)) (tokens (drop k xs))

follows_comma : (n : Notation) (ys : List Step) → 0 < length ys → (rest : Text) × (escaped_text n (tokens ys) ≡ 47 ∷ rest)
follows_comma n [] some = absurd (omega arith)
follows_comma n (y ∷ ys) some = kept_led n (token y) (tokens ys)

-- behind the text of fewer steps a `/` begins the rest
front_split : (n : Notation) (k m : ℕ) (xs : List Step) → k < m → m ≤ length xs → (rest : Text) × (front_text n m xs ≡ front_text n k xs ++ 47 ∷ rest)
front_split n k m xs less within =
    let rest = follows_comma n (drop k (take m xs)) (omega (arith, length-drop k (take m xs), length-take m xs)) in
    (rest.0, parts n k (take m xs) ∙ ap₂ (λ zs t. escaped_text n (tokens zs) ++ t) (take-take k m xs (omega arith)) rest.1)

-- ---- beside other steps, of which the first ones are the same
front_same : (n : Notation) (k m : ℕ) (xs ys : List Step) → k ≤ m → take m ys ≡ take m xs → front_text n k xs ≡ front_text n k ys
front_same n k m xs ys le same = ap (λ zs. escaped_text n (tokens zs)) (sym (take-take k m xs le) ∙ ap (take k) (sym same) ∙ take-take k m ys le)

moved : (n : Notation) (t : Text) (starts : List ℕ) (from : ℕ) (xs ys : List Step) → length starts ≤ length ys → take (length starts) ys ≡ take (length starts) xs → AreTexts n t starts from xs → AreTexts n t starts from ys
moved n t starts from xs ys within same are =
    let m = length starts in
    record {
      within = within;
      at = λ k d less. are.at k d less ∙ ap length (front_same n k m xs ys (omega (arith, less)) same);
      front = are.front ∙ front_same n m m xs ys (omega arith) same;
      plain = λ k d le less.
          ap (λ s. list_all is_plain (token s)) (sym (get_or-take m ys k d less) ∙ ap (λ zs. get_or zs k d) same ∙ get_or-take m xs k d less) ∙ are.plain k d le less;
    }

-- ---- where the text of a step starts, behind that of those before it
pub record StartsAt (n : Notation) (t : Text) (k start : ℕ) (xs : List Step) : Type 0 where
  pub at : start ≡ length (front_text n k xs)
  pub rest : Text
  pub split : t ≡ front_text n k xs ++ 47 ∷ rest

pub starts_at : (n : Notation) (t : Text) (starts : List ℕ) (from : ℕ) (xs : List Step) (k start : ℕ) → AreTexts n t starts from xs → k < length starts → start ≡ get_or starts k start → StartsAt n t k start xs
starts_at n t starts from xs k start are less is =
    let split = front_split n k (length starts) xs less are.within in
    record { at = is ∙ are.at k start less; rest = split.0; split = are.front ∙ split.1 }

-- the text may be cut there
pub record MayCut (t : Text) (start : ℕ) : Type 0 where
  pub within : start ≤ length t
  pub slash : slice_index t start ≡ 47

pub may_cut : (n : Notation) (t : Text) (k start : ℕ) (xs : List Step) → StartsAt n t k start xs → MayCut t start
may_cut n t k start xs there =
    let front = front_text n k xs in
    record {
      within = omega (arith, there.at, ap length there.split, length-append front (47 ∷ there.rest));
      slash = ap₂ slice_index there.split there.at ∙ get_or-append_seam front 47 there.rest 0;
    }

-- ---- as steps come and go
pub pushed_texts : (b : Bool) {n : Notation} {t : Text} {starts : List ℕ} {from : ℕ} {xs : List Step} (new more : List Step) → new ≡ (if b then xs ++ more else xs) → AreTexts n t starts from xs → AreTexts n t starts from new
pushed_texts true {n} {t} {starts} {from} {xs} new more is are =
    subst (AreTexts n t starts from) (sym is) (moved n t starts from xs (xs ++ more) (omega (arith, are.within, length-append xs more)) (take-append-le (length starts) xs more are.within) are)
pushed_texts false {n} {t} {starts} {from} {xs} new more is are = subst (AreTexts n t starts from) (sym is) are

pub cut_texts : {n : Notation} {t : Text} {starts : List ℕ} {from : ℕ} {xs : List Step} (ys : List Step) (j : ℕ) → ys ≡ take j xs → j ≤ length xs → length starts ≤ j → AreTexts n t starts from xs → AreTexts n t starts from ys
cut_texts {n} {t} {starts} {from} {xs} ys j is less within are =
    moved n t starts from xs ys (omega (arith, within, less, ap length is, length-take j xs)) (ap (take (length starts)) is ∙ take-take (length starts) j xs within) are

-- ---- fewer texts
pub fewer_texts : (n : Notation) (t cut : Text) (starts left : List ℕ) (from : ℕ) (xs : List Step) (k start : ℕ) → k < length starts → start ≡ get_or starts k start → cut ≡ take start t → left ≡ take k starts
    → AreTexts n t starts from xs → AreTexts n cut left (min from k) xs
fewer_texts n t cut starts left from xs k start less is text kept_starts are =
    let there = starts_at n t starts from xs k start are less is in
    let front = front_text n k xs in
    let count : length left ≡ k = ap length kept_starts ∙ length-take k starts ∙ omega (arith, less) in
    record {
      within = omega (arith, count, less, are.within);
      at = λ i d under. ap (λ ns. get_or ns i d) kept_starts ∙ get_or-take k starts i d (omega (arith, under, count)) ∙ are.at i d (omega (arith, under, count, less));
      front = text ∙ ap₂ take there.at there.split ∙ take-append_seam front (47 ∷ there.rest) ∙ ap (λ i. front_text n i xs) (sym count);
      plain = λ i d le under. are.plain i d (omega (arith, le, under, count)) (omega (arith, under, count, less));
    }

-- ---- one text more: of a plain step, and of another
more_texts : (n : Notation) (old new : Text) (starts more : List ℕ) (from : ℕ) (xs : List Step) (x : Step) → length starts < length xs → x ≡ get_or xs (length starts) x
    → AreTexts n old starts from xs → new ≡ old ++ escaped_text n (token x ∷ []) → more ≡ starts ++ length old ∷ [] → (next : ℕ)
    → ((k : ℕ) (d : Step) → next ≤ k → k < length more → IsPlain (get_or xs k d)) → AreTexts n new more next xs
more_texts n old new starts more from xs x less is are text started next plain =
    let m = length starts in
    let count : length more ≡ suc m = omega (arith, ap length started, length-append starts (length old ∷ [])) in
    record {
      within = omega (arith, count, less);
      at = λ k d under. ap (λ ns. get_or ns k d) started ∙ elim (eq-or-lt_of_le (let le : k ≤ m = omega (arith, under, count) in le)) [
        | inl last ↦ ap (λ i. get_or (starts ++ length old ∷ []) i d) last ∙ get_or-append_seam starts (length old) [] d ∙ ap length are.front ∙ ap (λ i. length (front_text n i xs)) (sym last)
        | inr before ↦ get_or-append starts (length old ∷ []) d k before ∙ are.at k d before
      ];
      front = text ∙ ap (λ t. t ++ escaped_text n (token x ∷ [])) are.front ∙ sym (front_next n m xs x less is) ∙ ap (λ i. front_text n i xs) (sym count);
      plain = plain;
    }

pub plain_more : (n : Notation) (old new : Text) (starts more : List ℕ) (from : ℕ) (xs : List Step) (x : Step) → length starts < length xs → x ≡ get_or xs (length starts) x
    → AreTexts n old starts from xs → IsPushed n (token x) true old new → more ≡ starts ++ length old ∷ []
    → AreTexts n new more from xs
plain_more n old new starts more from xs x less is are pushed started =
    let m = length starts in
    more_texts n old new starts more from xs x less is are pushed.text started from
    (λ k d le under. elim (eq-or-lt_of_le (let at_most : k ≤ m = omega (arith, under, ap length started, length-append starts (length old ∷ [])) in at_most)) [
      | inl last ↦ ap (λ s. list_all is_plain (token s)) (ap (λ i. get_or xs i d) last ∙ get_or_default xs m d x less ∙ sym is) ∙ pushed.is_plain refl
      | inr before ↦ are.plain k d le before
    ])

pub other_more : (n : Notation) (old new : Text) (starts more : List ℕ) (from : ℕ) (xs : List Step) (x : Step) (plain : Bool) → length starts < length xs → x ≡ get_or xs (length starts) x
    → AreTexts n old starts from xs → IsPushed n (token x) plain old new → more ≡ starts ++ length old ∷ []
    → (next : ℕ) → next ≡ length more → AreTexts n new more next xs
other_more n old new starts more from xs x plain less is are pushed started next last =
    more_texts n old new starts more from xs x less is are pushed.text started next (λ k d le under. absurd (omega (arith, last, le, under)))

-- ---- the text of all, and behind some
pub whole : (n : Notation) (t : Text) (starts : List ℕ) (from : ℕ) (xs : List Step) → AreTexts n t starts from xs → length starts ≡ length xs → t ≡ escaped_text n (tokens xs)
whole n t starts from xs are all = are.front ∙ ap (λ i. escaped_text n (tokens (take i xs))) all ∙ ap (λ ys. escaped_text n (tokens ys)) (take-length xs)

pub behind : (n : Notation) (t rest : Text) (starts : List ℕ) (from : ℕ) (xs : List Step) (k start : ℕ) → AreTexts n t starts from xs → length starts ≡ length xs → k < length starts → start ≡ get_or starts k start → rest ≡ drop start t
    → rest ≡ escaped_text n (drop k (tokens xs))
behind n t rest starts from xs k start are all less is cut =
    let there = starts_at n t starts from xs k start are less is in
    let split : t ≡ front_text n k xs ++ rest = there.split ∙ ap (λ u. front_text n k xs ++ u) (sym (cut ∙ ap₂ drop there.at there.split ∙ drop-append_seam (front_text n k xs) (47 ∷ there.rest))) in
    append_cancel_left (front_text n k xs) rest (escaped_text n (tokens (drop k xs))) (sym split ∙ whole n t starts from xs are all ∙ parts n k xs) ∙ ap (escaped_text n) (sym (drop-map token k xs))

pub none_left : (n : Notation) (rest : Text) (xs : List Step) (k : ℕ) → length xs ≤ k → rest ≡ [] → rest ≡ escaped_text n (drop k (tokens xs))
none_left n rest xs k le none = none ∙ sym (ap (escaped_text n) (drop_all k (tokens xs) (omega (arith, le, length-map xs token))) ∙ kept_none n)

-- where all of them are plain, the text is that of a fragment too
all_plain : (k : ℕ) (xs : List Step) → ((i : ℕ) (d : Step) → k ≤ i → i < length xs → IsPlain (get_or xs i d)) → are_plain (drop k (tokens xs)) ≡ true
all_plain zero [] h = refl
all_plain (suc k) [] h = refl
all_plain zero (x ∷ xs) h = ap₂ (λ a b. a && b) (h 0 x (omega arith) (omega arith)) (all_plain zero xs (λ i d le less. h (suc i) d (omega arith) (omega (arith, less))))
all_plain (suc k) (x ∷ xs) h = all_plain k xs (λ i d le less. h (suc i) d (omega (arith, le)) (omega (arith, less)))

pub plain_onward : (t : Text) (starts : List ℕ) (from : ℕ) (xs : List Step) (k : ℕ) → AreTexts notation.Pointer t starts from xs → length starts ≡ length xs → from ≤ k
    → escaped_text notation.Pointer (drop k (tokens xs)) ≡ escaped_text notation.Fragment (drop k (tokens xs))
plain_onward t starts from xs k are all le =
    let plain = all_plain k xs (λ i d under less. are.plain i d (omega (arith, le, under)) (omega (arith, less, all))) in
    plain_kept notation.Pointer (drop k (tokens xs)) plain ∙ sym (plain_kept notation.Fragment (drop k (tokens xs)) plain)
