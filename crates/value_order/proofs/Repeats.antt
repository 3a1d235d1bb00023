-- What a walk over a list has found of repeats, and what is left.
use Rattle.std.proofs.Common.{◌≡◌, ℕ, suc, ◌+◌, ◌-◌, ◌<◌, List, ◌∷◌, map, length, get_or, take, drop, drop-cons, Bool, true, false, ◌||◌, ap, ◌∙◌, sym, add-one}
use Rattle.std.proofs.lemmas.List.{take_rest}
use Rattle.std.specs.List.{list_any}
use Rattle.definitions.specs.Values.{same}
use Rattle.definitions.specs.Lists.{has_repeat}
use Rattle.lemmas.proofs.Lists.{list_any-map}
use Rattle.json_doc.specs.Docs.{value}
use Rattle.json_doc.specs.declared.doc.Doc.{Doc}

abbrev pub repeats : List Doc → Bool
repeats ds = has_repeat same (map value ds)

repeats-cons : (d : Doc) (ds : List Doc) → repeats (d ∷ ds) ≡ (list_any (λ e. same (value d) (value e)) ds || repeats ds)
repeats-cons d ds = ap (λ b. b || repeats ds) (list_any-map (same (value d)) value ds)

left_from : (ds : List Doc) (i : ℕ) (d : Doc) → i < length ds → d ≡ get_or ds i d → drop i ds ≡ d ∷ drop (i + 1) ds
left_from ds i d h e = drop-cons ds i d h ∙ ap (λ x. x ∷ drop (suc i) ds) (sym e) ∙ ap (λ n. d ∷ drop n ds) (sym (add-one i))

-- the elements after the one at i, as a slice gives them
abbrev pub after : List Doc → ℕ → List Doc
after ds i = take (length ds - (i + 1)) (drop (i + 1) ds)

-- the element at i, beside those after it
repeats-at : (ds : List Doc) (i : ℕ) (d : Doc) → i < length ds → d ≡ get_or ds i d → repeats ds ≡ repeats (drop i ds)
    → repeats ds ≡ (list_any (λ e. same (value d) (value e)) (after ds i) || repeats (drop (i + 1) ds))
repeats-at ds i d h e left =
    left ∙ ap repeats (left_from ds i d h e) ∙ repeats-cons d (drop (i + 1) ds)
    ∙ ap (λ es. list_any (λ f. same (value d) (value f)) es || repeats (drop (i + 1) ds)) (sym (take_rest ds (i + 1)))

-- it is repeated
pub repeats-here : (ds : List Doc) (i : ℕ) (d : Doc) → i < length ds → d ≡ get_or ds i d → repeats ds ≡ repeats (drop i ds)
    → list_any (λ e. same (value d) (value e)) (after ds i) ≡ true → true ≡ repeats ds
repeats-here ds i d h e left found = sym (repeats-at ds i d h e left ∙ ap (λ b. b || repeats (drop (i + 1) ds)) found)

-- it is not
pub repeats-past : (ds : List Doc) (i : ℕ) (d : Doc) → i < length ds → d ≡ get_or ds i d → repeats ds ≡ repeats (drop i ds)
    → list_any (λ e. same (value d) (value e)) (after ds i) ≡ false → repeats ds ≡ repeats (drop (i + 1) ds)
repeats-past ds i d h e left none = repeats-at ds i d h e left ∙ ap (λ b. b || repeats (drop (i + 1) ds)) none
