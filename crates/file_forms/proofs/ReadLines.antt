-- Lines that are read one after the other.
use Rattle.std.proofs.Common.{◌≡◌, ◌≢◌, ◌++◌, ◌∷◌, [], ◌∙◌, ℕ, suc, ◌+◌, Bool, true, false, List, Option, Some, None, ap, refl, sym, subst, length, append_assoc, arith, if◌then◌else◌, inl, inr}
use Rattle.std.specs.Option.{IfSome}
use Rattle.std.specs.Io.BufRead.{drop_through, first_piece}
use Rattle.std.specs.List.{list_all}
use Rattle.std.proofs.lemmas.List.{append-nil, length-append}
use Rattle.definitions.specs.Values.{Text}
use Rattle.file_checks.specs.Lines.{is_space}
use Rattle.file_forms.specs.NextLines.{IsFirstOf, IsNext}
use Rattle.file_forms.specs.Subjects.{Are, AreFirstLines, AreLines, AreLinesOf, Subject, instance_at, of_line, of_lines, unread}

-- so many lines were read of the first text, of which the second is left
pub record AreRead (path : Text) (given left : Option Text) (count : ℕ) (subjects : List Subject) : Type 0 where
  pub lines : List Text
  pub counted : length lines ≡ count
  pub first : IfSome given (λ whole. (rest : Text) × (left ≡ Some rest) × AreFirstLines lines whole rest)
  pub are : subjects ≡ of_lines path 1 lines

pub none_read : (path : Text) (given : Option Text) → AreRead path given given 0 []
none_read path None = record { lines = []; counted = refl; first = tt; are = refl }
none_read path (Some whole) = record { lines = []; counted = refl; first = (whole, refl, refl); are = refl }

first_more : (lines : List Text) (line whole rest : Text) → AreFirstLines lines whole rest → rest ≢ [] → line ≡ first_piece 10 rest → AreFirstLines (lines ++ line ∷ []) whole (drop_through 10 rest)
first_more [] line whole rest e there is = (subst (λ t. t ≢ []) e there, is ∙ ap (first_piece 10) e, ap (drop_through 10) e)
first_more (l ∷ lines) line whole rest p there is = (p.0, p.1, first_more lines line (drop_through 10 whole) rest p.2 there is)

of_lines-push : (path : Text) (n : ℕ) (lines : List Text) (line : Text) → of_lines path n (lines ++ line ∷ []) ≡ of_lines path n lines ++ of_line path (n + length lines) line
of_lines-push path n [] line = append-nil (of_line path n line) ∙ ap (λ m. of_line path m line) (let e : n ≡ n + 0 = omega arith in e)
of_lines-push path n (l ∷ lines) line =
    ap (λ z. of_line path n l ++ z)
    (of_lines-push path (suc n) lines line ∙ ap (λ m. of_lines path (suc n) lines ++ of_line path m line) (let e : suc n + length lines ≡ n + length (l ∷ lines) = omega arith in e))
    ∙ sym (append_assoc (of_line path n l) (of_lines path (suc n) lines) (of_line path (n + length (l ∷ lines)) line))

count_more : (lines : List Text) (line : Text) (count : ℕ) → length lines ≡ count → length (lines ++ line ∷ []) ≡ count + 1
count_more lines line count e = length-append lines (line ∷ []) ∙ ap (λ n. n + 1) e

are_more : (path : Text) (lines : List Text) (line : Text) (count : ℕ) (xs ys : List Subject) → length lines ≡ count → xs ≡ of_lines path 1 lines → Are (of_line path (count + 1) line) ys
    → xs ++ ys ≡ of_lines path 1 (lines ++ line ∷ [])
are_more path lines line count xs ys counted are more =
    ap (λ z. z ++ ys) are ∙ ap (λ z. of_lines path 1 lines ++ z) (more ∙ ap (λ n. of_line path n line) (let e : count + 1 ≡ 1 + length lines = omega (arith, counted) in e))
    ∙ sym (of_lines-push path 1 lines line)

pub one_more_read : (path : Text) (given left later : Option Text) (count : ℕ) (is_there : Bool) (line shown : Text) (xs ys : List Subject) → AreRead path given left count xs
    → is_there ≡ true → IsNext left is_there line later → shown ≡ line → Are (of_line path (count + 1) shown) ys → AreRead path given later (count + 1) (xs ++ ys)
one_more_read path None left later count is_there line shown xs ys x there next is more =
    record {
      lines = x.lines ++ line ∷ [];
      counted = count_more x.lines line count x.counted;
      first = tt;
      are = are_more path x.lines line count xs ys x.counted x.are (more ∙ ap (of_line path (count + 1)) is);
    }
one_more_read path (Some whole) left later count is_there line shown xs ys x there next is more =
    let rest = x.first.0 in
    let is_next : IsFirstOf rest true line later = subst (λ b. IsFirstOf rest b line later) there (subst (λ l. IsNext l is_there line later) x.first.1 next) in
    record {
      lines = x.lines ++ line ∷ [];
      counted = count_more x.lines line count x.counted;
      first = (drop_through 10 rest, is_next.2, first_more x.lines line whole rest x.first.2 is_next.0 is_next.1);
      are = are_more path x.lines line count xs ys x.counted x.are (more ∙ ap (of_line path (count + 1)) is);
    }

pub all_read : (path : Text) (given left later : Option Text) (count : ℕ) (is_there : Bool) (line : Text) (xs : List Subject) → AreRead path given left count xs → is_there ≡ false
    → IsNext left is_there line later → AreLines path given xs
all_read path None left later count is_there line xs x there next = record { lines = x.lines; rest = []; are_first = tt; are = inl (refl, x.are) }
all_read path (Some whole) left later count is_there line xs x there next =
    let rest = x.first.0 in
    let empty : rest ≡ [] = subst (λ b. IsFirstOf rest b line later) there (subst (λ l. IsNext l is_there line later) x.first.1 next) in
    record { lines = x.lines; rest = []; are_first = subst (λ r. AreFirstLines x.lines whole r) empty x.first.2; are = inl (refl, x.are) }

pub cut_off : (path : Text) (given left : Option Text) (count : ℕ) (xs ys : List Subject) → AreRead path given left count xs → Are (unread path ∷ []) ys → AreLines path given (xs ++ ys)
cut_off path None left count xs ys x e = record { lines = x.lines; rest = []; are_first = tt; are = inr (ap (λ z. z ++ ys) x.are ∙ ap (λ z. of_lines path 1 x.lines ++ z) e) }
cut_off path (Some whole) left count xs ys x e =
    record { lines = x.lines; rest = x.first.0; are_first = x.first.2; are = inr (ap (λ z. z ++ ys) x.are ∙ ap (λ z. of_lines path 1 x.lines ++ z) e) }

-- nothing can be read
pub none_of_them : (path : Text) (given : Option Text) (xs : List Subject) → Are (unread path ∷ []) xs → AreLines path given xs
none_of_them path None xs e = record { lines = []; rest = []; are_first = tt; are = inr e }
none_of_them path (Some whole) xs e = record { lines = []; rest = whole; are_first = refl; are = inr e }

pub lines_of_none : (path : Text) (IsText : Text → Type 0) (xs : List Subject) → Are (unread path ∷ []) xs → AreLinesOf path IsText xs
lines_of_none path IsText xs e = record { text = None; is_text = tt; are = none_of_them path None xs e }

pub lines_of : (path : Text) (IsText : Text → Type 0) (text : Option Text) → IfSome text IsText → (xs : List Subject) → AreLines path text xs → AreLinesOf path IsText xs
lines_of path IsText text is xs are = record { text = text; is_text = is; are = are }

-- a blank line is none
pub no_line : (path : Text) (number : ℕ) (line : Text) (is_blank : Bool) → is_blank ≡ list_all is_space line → is_blank ≡ true → Are (of_line path number line) []
no_line path number line is_blank is e = sym (ap (λ b. if b then [] else instance_at path (Some number) line ∷ []) (sym is ∙ e))
