-- Texts that are among others, and the patterns that stand by their numbers.
use Rattle.std.proofs.Common.{◌≡◌, ℕ, suc, ◌<◌, ◌+◌, List, [], ◌∷◌, ◌++◌, map, take, get_or, length, Bool, true, false, cond, ◌||◌, Some, Bor, refl, sym, ap, ap₂, ◌∙◌}
use Rattle.std.proofs.lemmas.Bool.{and_parts, and_from, or_right}
use Rattle.std.proofs.lemmas.List.{map_more}
use Rattle.std.specs.List.{list_all, slice_get}
use Rattle.definitions.specs.Patterns.{is_read}
use Rattle.definitions.specs.Values.{Text, same_text}
use Rattle.lemmas.proofs.Texts.{same_text_is, same_text_itself, same_text_turned}
use Rattle.text_numbers.specs.TextNumbers.{AreNumbers, text_number}
use Rattle.text_numbers.specs.declared.numbering.TextNumbers.{TextNumbers}
use Rattle.schema_scan.specs.TextsAmong.{is_among}

-- ---- among others
pub place_of : (ts : List Text) (t : Text) → is_among ts t ≡ true → (i : ℕ) × (slice_get ts i ≡ Some t)
place_of [] t h = absurd (cc)
place_of (u ∷ ts) t h = by (same_text t u) refl (place_of ts t) h
  where
    by : (b : Bool) → same_text t u ≡ b → (is_among ts t ≡ true → (i : ℕ) × (slice_get ts i ≡ Some t)) → (b || is_among ts t) ≡ true → (i : ℕ) × (slice_get (u ∷ ts) i ≡ Some t)
    by true e rest g = (0, ap Some (sym (same_text_is t u e)))
    by false e rest g = let i = rest g in (suc i.0, i.1)

pub all_among : (us ts : List Text) → ((t : Text) → is_among ts t ≡ true → is_among us t ≡ true) → list_all (is_among us) ts ≡ true
all_among us [] f = refl
all_among us (t ∷ ts) f =
    and_from (is_among us t) (list_all (is_among us) ts) (f t (ap (λ b. b || is_among ts t) (same_text_itself t)))
    (all_among us ts (λ u e. f u (or_right (same_text u t) (is_among ts u) e)))

-- what holds of each text holds of those among them
passes : (p : Text → Bool) (ts : List Text) (t : Text) → list_all p ts ≡ true → is_among ts t ≡ true → p t ≡ true
passes p [] t h g = absurd (cc)
passes p (u ∷ ts) t h g = by (same_text t u) refl (passes p ts t (and_parts (p u) (list_all p ts) h).1) g
  where
    by : (b : Bool) → same_text t u ≡ b → (is_among ts t ≡ true → p t ≡ true) → (b || is_among ts t) ≡ true → p t ≡ true
    by true e rest k = ap p (same_text_is t u e) ∙ (and_parts (p u) (list_all p ts) h).0
    by false e rest k = rest k

pub all_pass : (p : Text → Bool) (us ts : List Text) → list_all p us ≡ true → ((t : Text) → is_among ts t ≡ true → is_among us t ≡ true) → list_all p ts ≡ true
all_pass p us [] h f = refl
all_pass p us (t ∷ ts) h f =
    and_from (p t) (list_all p ts) (passes p us t h (f t (ap (λ b. b || is_among ts t) (same_text_itself t))))
    (all_pass p us ts h (λ u e. f u (or_right (same_text u t) (is_among ts u) e)))

all_push : (p : Text → Bool) (ts : List Text) (t : Text) → list_all p ts ≡ true → p t ≡ true → list_all p (ts ++ t ∷ []) ≡ true
all_push p [] t h g = and_from (p t) true g refl
all_push p (u ∷ ts) t h g = and_from (p u) (list_all p (ts ++ t ∷ [])) (and_parts (p u) (list_all p ts) h).0 (all_push p ts t (and_parts (p u) (list_all p ts) h).1 g)

-- ---- one text more
or_false : (b : Bool) → (b || false) ≡ b
or_false true = refl
or_false false = refl

or_either : (b a : Bool) → cond b true a ≡ (a || b)
or_either true true = refl
or_either true false = refl
or_either false true = refl
or_either false false = refl

pub among_push : (ts : List Text) (t q : Text) → is_among (ts ++ t ∷ []) q ≡ (is_among ts q || same_text q t)
among_push [] t q = or_false (same_text q t)
among_push (u ∷ ts) t q = by (same_text q u) (among_push ts t q)
  where
    by : (b : Bool) → is_among (ts ++ t ∷ []) q ≡ (is_among ts q || same_text q t) → (b || is_among (ts ++ t ∷ []) q) ≡ ((b || is_among ts q) || same_text q t)
    by true rest = refl
    by false rest = rest

-- a text that is among them already
among_already : (ts : List Text) (t q : Text) → is_among ts t ≡ true → is_among ts q ≡ (is_among ts q || same_text q t)
among_already ts t q h = by (same_text q t) refl
  where
    by : (b : Bool) → same_text q t ≡ b → is_among ts q ≡ (is_among ts q || b)
    by true e = let there : is_among ts q ≡ true = ap (is_among ts) (same_text_is q t e) ∙ h in cc
    by false e = sym (or_false (is_among ts q))

-- the texts of references, the first ones of a list
abbrev pub first_texts : ℕ → List (Bor Text) → List Text
first_texts i rs = map (λ r. r.now) (take i rs)

module _ (rs : List (Bor Text)) (i : ℕ) (r : Bor Text) (h : i < length rs) (ts : List Text) (same : (q : Text) → is_among ts q ≡ is_among (first_texts i rs) q) where
  next_among : (q : Text) → is_among (first_texts (i + 1) rs) q ≡ (is_among ts q || same_text q (get_or rs i r).now)
  next_among q =
      let text = (get_or rs i r).now in
      ap (λ us. is_among us q) (map_more (λ (t : Bor Text). t.now) rs i r h) ∙ among_push (first_texts i rs) text q ∙ ap (λ b. b || same_text q text) (sym (same q))

  pub same_kept : is_among ts (get_or rs i r).now ≡ true → (q : Text) → is_among ts q ≡ is_among (first_texts (i + 1) rs) q
  same_kept there q = among_already ts (get_or rs i r).now q there ∙ sym (next_among q)

  pub same_pushed : (us : List Text) (text : Text) → us ≡ ts ++ text ∷ [] → text ≡ (get_or rs i r).now → (q : Text) → is_among us q ≡ is_among (first_texts (i + 1) rs) q
  same_pushed us text e is q =
      ap (λ vs. is_among vs q) e ∙ among_push ts text q ∙ ap (λ t. is_among ts q || same_text q t) is ∙ sym (next_among q)

-- a set of texts grows with the list
pub known_pushed : (ts us : List Text) (key text : Text) (before : Bool) (q : Text) → us ≡ ts ++ text ∷ [] → key ≡ text → before ≡ is_among ts q → cond (same_text key q) true before ≡ is_among us q
known_pushed ts us key text before q e is b =
    or_either (same_text key q) before ∙ ap₂ (λ x y. x || y) b (same_text_turned key q ∙ ap (same_text q) is)
    ∙ sym (among_push ts text q) ∙ ap (λ vs. is_among vs q) (sym e)

-- ---- patterns in a list
pub read_pushed : (ts us : List Text) (t : Text) → us ≡ ts ++ t ∷ [] → list_all is_read ts ≡ true → is_read t ≡ true → list_all is_read us ≡ true
read_pushed ts us t e before here = ap (list_all is_read) e ∙ all_push is_read ts t before here

-- ---- the pattern of a text's number
pub numbered_text : (n : TextNumbers) (ts : List Text) (t : Text) → AreNumbers n ts → is_among ts t ≡ true → slice_get ts (text_number n t) ≡ Some t
numbered_text n ts t a h = let i = place_of ts t h in a.found t i.0 i.1
