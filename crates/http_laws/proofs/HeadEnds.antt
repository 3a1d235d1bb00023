-- A head ends in an empty line (RFC 9112, section 2.1).
use Rattle.std.proofs.Common.{refl, sym, ap, ap₂, ◌∙◌, append_assoc, append-nil, length-append, inl, inr, arith}
use Rattle.std.specs.Prelude.{◌≡◌, ◌⊎◌, ◌<◌, ◌+◌, ◌-◌, ℕ, List, [], ◌∷◌, ◌++◌, length, get_or}
use Rattle.std.specs.List.{flat_map}
use Rattle.std.proofs.lemmas.List.{get_or-append-add}
use Rattle.httparse.specs.Ascii.{line_feed, carriage_return, space, colon}
use Rattle.httparse.specs.Grammar.{LineEnd, crlf, lf, print_end, Field, print_field, print_blank, print_version, RequestHead, ReadsRequest, print_request}
use Rattle.httparse.proofs.GrammarLemmas.{print_request-append, cons-append}
use Rattle.definitions.specs.Values.{Text}

-- what a line end ends in
abbrev before_feed : LineEnd → Text
before_feed crlf = carriage_return ∷ []
before_feed lf = []

line_ends : (e : LineEnd) → print_end e ≡ before_feed e ++ line_feed ∷ []
line_ends crlf = refl
line_ends lf = refl

section_ends : (fields : List Field) (last : LineEnd) (front : Text)
    → (f : Text) × (front ++ (line_feed ∷ (flat_map print_field fields ++ print_end last)) ≡ f ++ (line_feed ∷ print_end last))
section_ends [] last front = (front, refl)
section_ends (f ∷ fs) last front =
    let before = front ++ (line_feed ∷ (f.name ++ (colon ∷ (f.raw ++ before_feed f.end)))) in
    let next = section_ends fs last before in
    (next.0, regroup front f.name f.raw (print_end f.end) (before_feed f.end) (flat_map print_field fs) (print_end last) (line_ends f.end) ∙ next.1)
  where
    regroup : (a n w e g s l : Text) → e ≡ g ++ line_feed ∷ []
        → a ++ (line_feed ∷ (((n ++ colon ∷ w ++ e) ++ s) ++ l)) ≡ (a ++ (line_feed ∷ (n ++ (colon ∷ (w ++ g))))) ++ (line_feed ∷ (s ++ l))
    regroup a n w e g s l same = rw same (simp (append_assoc, cons-append))

pub head_ends : (h : RequestHead) → (f : Text) × (print_request h ≡ f ++ (line_feed ∷ print_end h.last))
head_ends h =
    let front = print_blank h.blank ++ (h.method ++ (space ∷ (h.target ++ (space ∷ (print_version h.minor ++ before_feed h.line_end))))) in
    let x = section_ends h.fields h.last front in (
      x.0,
      sym (append-nil _) ∙ print_request-append h []
          ∙ regroup (print_blank h.blank) h.method h.target (print_version h.minor) (print_end h.line_end) (before_feed h.line_end)
          (flat_map print_field h.fields ++ print_end h.last) (line_ends h.line_end)
          ∙ x.1,
    )
  where
    regroup : (a b c d e g s : Text) → e ≡ g ++ line_feed ∷ []
        → a ++ (b ++ space ∷ (c ++ space ∷ (d ++ (e ++ (s ++ [])))))
        ≡ (a ++ (b ++ (space ∷ (c ++ (space ∷ (d ++ g)))))) ++ (line_feed ∷ s)
    regroup a b c d e g s same = rw same (simp (append_assoc, cons-append, append-nil))

-- a line feed stands at the end of a head, and before it one, or one and a carriage return
pub record IsEmptyLineAt (bytes : Text) (at : ℕ) : Type 0 where
  pub feed : get_or bytes at 0 ≡ line_feed
  pub later : 0 < at
  pub before : (get_or bytes (at - 1) 0 ≡ line_feed) ⊎ ((get_or bytes (at - 1) 0 ≡ carriage_return) × (1 < at) × (get_or bytes (at - 2) 0 ≡ line_feed))

pub ends_at : (bytes : Text) (h : RequestHead) (more : Text) (at : ℕ) → ReadsRequest bytes h more → length (print_request h) ≡ at + 1 → IsEmptyLineAt bytes at
ends_at bytes h more at reads long = last h.last refl
  where
    f : Text
    f = (head_ends h).0

    whole : (e : LineEnd) → h.last ≡ e → bytes ≡ f ++ (line_feed ∷ (print_end e ++ more))
    whole e same = reads.1 ∙ ap (λ t. t ++ more) ((head_ends h).1 ∙ ap (λ l. f ++ (line_feed ∷ print_end l)) same) ∙ append_assoc f (line_feed ∷ print_end e) more

    size : (e : LineEnd) → h.last ≡ e → at + 1 ≡ length f + length (line_feed ∷ print_end e)
    size e same = sym long ∙ ap length ((head_ends h).1 ∙ ap (λ l. f ++ (line_feed ∷ print_end l)) same) ∙ length-append f (line_feed ∷ print_end e)

    place : (rest : Text) (n k : ℕ) → bytes ≡ f ++ rest → k ≡ length f + n → get_or bytes k 0 ≡ get_or rest n 0
    place rest n k same there = ap₂ (λ b i. get_or b i 0) same there ∙ get_or-append-add f rest n 0

    last : (e : LineEnd) → h.last ≡ e → IsEmptyLineAt bytes at
    last crlf same =
        let w = whole crlf same in
        let n = size crlf same in
        record {
          feed = place _ 2 at w (omega (arith, n));
          later = omega (arith, n);
          before = inr (place _ 1 (at - 1) w (omega (arith, n)), omega (arith, n), place _ 0 (at - 2) w (omega (arith, n)));
        }
    last lf same =
        let w = whole lf same in
        let n = size lf same in
        record { feed = place _ 1 at w (omega (arith, n)); later = omega (arith, n); before = inl (place _ 0 (at - 1) w (omega (arith, n))) }

pub printed_head_has_bytes : (h : RequestHead) → 0 < length (print_request h)
printed_head_has_bytes h = let e = head_ends h in omega (arith, ap length e.1, length-append e.0 (line_feed ∷ print_end h.last))
