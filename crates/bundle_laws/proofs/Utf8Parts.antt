-- URI references in UTF-8: their parts are in UTF-8 too.
use Rattle.std.proofs.Common.{◌≡◌, ◌<◌, ◌==◌, ◌&&◌, ◌++◌, ℕ, zero, suc, [], ◌∷◌, Bool, true, false, cond, Option, Some, None, is_some, unwrap_or, get_or, take, drop, length, codes, refl, sym, ap, subst, arith, append-nil, length-append}
use Rattle.std.proofs.lemmas.Bool.{eqb-true}
use Rattle.std.proofs.lemmas.Str.{IsUtf8-nil, IsUtf8-append, IsUtf8-take, IsUtf8-drop, IsUtf8-from_ascii, IsCharBoundary-before_ascii, IsCharBoundary-after_ascii}
use Rattle.std.specs.Str.{IsUtf8, IsCharBoundary}
use Rattle.definitions.specs.Values.{Text}
use Rattle.definitions.specs.Uris.{Parts, split, recompose, begins, led_by, ended_by, is_scheme, scheme_and_rest}
use Rattle.definitions.specs.Lists.{cut_at, split_before}
use Rattle.uri_ref.proofs.Missing.{is_rooted, rest_is_rooted}
use Rattle.uri_ref.proofs.Recomposed.{cut_joined, before_joined}
use Rattle.uri_ref.proofs.Rules.{front}

-- ---- where a text may be cut
-- empty, or an ASCII byte first
abbrev pub IsPlainFirst : Text → Type 0
IsPlainFirst [] = Unit {0}
IsPlainFirst (c ∷ cs) = c < 128

take_front : (xs ys : Text) → take (length xs) (xs ++ ys) ≡ xs
take_front [] [] = refl
take_front [] (y ∷ ys) = refl
take_front (x ∷ xs) ys = ap (λ r. x ∷ r) (take_front xs ys)

drop_front : (xs ys : Text) → drop (length xs) (xs ++ ys) ≡ ys
drop_front [] [] = refl
drop_front [] (y ∷ ys) = refl
drop_front (x ∷ xs) ys = drop_front xs ys

seam_reads : (xs ys : Text) (c : ℕ) → get_or (xs ++ c ∷ ys) (length xs) 0 ≡ c
seam_reads [] ys c = refl
seam_reads (x ∷ xs) ys c = seam_reads xs ys c

pub halves : (xs ys : Text) → IsUtf8 (xs ++ ys) → IsPlainFirst ys → IsUtf8 xs × IsUtf8 ys
halves xs [] u p = (subst IsUtf8 (append-nil xs) u, IsUtf8-nil)
halves xs (c ∷ cs) u p =
    let within : length xs < length (xs ++ c ∷ cs) = omega (arith, length-append xs (c ∷ cs)) in
    let small : get_or (xs ++ c ∷ cs) (length xs) 0 < 128 = subst (λ n. n < 128) (sym (seam_reads xs cs c)) p in
    let at : IsCharBoundary (xs ++ c ∷ cs) (length xs) = IsCharBoundary-before_ascii (xs ++ c ∷ cs) (length xs) within small in (
      subst IsUtf8 (take_front xs (c ∷ cs)) (IsUtf8-take (xs ++ c ∷ cs) (length xs) u at),
      subst IsUtf8 (drop_front xs (c ∷ cs)) (IsUtf8-drop (xs ++ c ∷ cs) (length xs) u at),
    )

pub past_plain : (c : ℕ) (cs : Text) → IsUtf8 (c ∷ cs) → c < 128 → IsUtf8 cs
past_plain c cs u l = IsUtf8-drop (c ∷ cs) 1 u (IsCharBoundary-after_ascii (c ∷ cs) 0 u (omega arith) l)

one_ascii : (c : ℕ) → c < 128 → (i : ℕ) → get_or (c ∷ []) i 0 < 128
one_ascii c l zero = l
one_ascii c l (suc i) = omega arith

pub one_plain : (c : ℕ) → c < 128 → IsUtf8 (c ∷ [])
one_plain c l = IsUtf8-from_ascii (c ∷ []) (one_ascii c l)

pub slash : IsUtf8 (codes "/")
slash = one_plain 47 (omega arith)

slashes : IsUtf8 (codes "//")
slashes = IsUtf8-append (codes "/") (codes "/") slash slash

pub rooted_plain : (t : Text) → is_rooted t ≡ true → IsPlainFirst t
rooted_plain [] h = tt
rooted_plain (c ∷ cs) h = let e : 47 ≡ c = eqb-true 47 c h in omega arith

-- ---- texts that may be absent
abbrev pub IsText : Option Text → Type 0
IsText None = Unit {0}
IsText (Some t) = IsUtf8 t

led_text : (sign : Text) (o : Option Text) → IsUtf8 sign → IsText o → IsUtf8 (led_by sign o)
led_text sign None s h = IsUtf8-nil
led_text sign (Some t) s h = IsUtf8-append sign t s h

ended_text : (o : Option Text) (sign : Text) → IsUtf8 sign → IsText o → IsUtf8 (ended_by o sign)
ended_text None sign s h = IsUtf8-nil
ended_text (Some t) sign s h = IsUtf8-append t sign h s

pub record AreTexts (p : Parts) : Type 0 where
  pub scheme : IsText p.scheme
  pub authority : IsText p.authority
  pub path : IsUtf8 p.path
  pub query : IsText p.query
  pub fragment : IsText p.fragment

pub recompose_text : (p : Parts) → AreTexts p → IsUtf8 (recompose p)
recompose_text p h =
    IsUtf8-append _ _ (ended_text p.scheme (codes ":") (one_plain 58 (omega arith)) h.scheme)
    (IsUtf8-append _ _ (led_text (codes "//") p.authority slashes h.authority)
    (IsUtf8-append _ _ h.path
    (IsUtf8-append _ _ (led_text (codes "?") p.query (one_plain 63 (omega arith)) h.query) (led_text (codes "#") p.fragment (one_plain 35 (omega arith)) h.fragment))))

-- ---- the parts of a text
led_first : (c : ℕ) (o : Option Text) → c < 128 → IsPlainFirst (led_by (c ∷ []) o)
led_first c None l = tt
led_first c (Some t) l = l

led_past : (c : ℕ) (o : Option Text) → c < 128 → IsUtf8 (led_by (c ∷ []) o) → IsText o
led_past c None l u = tt
led_past c (Some t) l u = past_plain c t u l

pub cut_texts : (c : ℕ) → c < 128 → (t : Text) → IsUtf8 t → IsUtf8 (cut_at (λ d. d == c) t).0 × IsText (cut_at (λ d. d == c) t).1
cut_texts c l t u =
    let r = cut_at (λ d. d == c) t in
    let both = halves r.0 (led_by (c ∷ []) r.1) (subst IsUtf8 (sym (cut_joined c t)) u) (led_first c r.1 l) in
    (both.0, led_past c r.1 l both.1)

before_texts : (t : Text) → IsUtf8 t → IsUtf8 (split_before (λ c. c == 47) t).0 × IsUtf8 (split_before (λ c. c == 47) t).1
before_texts t u =
    let r = split_before (λ c. c == 47) t in
    halves r.0 r.1 (subst IsUtf8 (sym (before_joined (λ c. c == 47) t)) u) (rooted_plain r.1 (rest_is_rooted t))

rest_text : (o : Option Text) → IsText o → IsUtf8 (unwrap_or o [])
rest_text None h = IsUtf8-nil
rest_text (Some t) h = h

scheme_step : (s a rest : Text) (b : Bool) → IsUtf8 s → IsUtf8 a → IsUtf8 rest
    → IsText (cond {A = Option Text × Text} b (Some a, rest) (None, s)).0 × IsUtf8 (cond {A = Option Text × Text} b (Some a, rest) (None, s)).1
scheme_step s a rest true u v w = (v, w)
scheme_step s a rest false u v w = (tt, u)

scheme_texts : (s : Text) → IsUtf8 s → IsText (scheme_and_rest s).0 × IsUtf8 (scheme_and_rest s).1
scheme_texts s u =
    let r = cut_at (λ c. c == 58) s in
    let cut = cut_texts 58 (omega arith) s u in
    scheme_step s r.0 (unwrap_or r.1 []) (is_some r.1 && is_scheme r.0) u cut.0 (rest_text r.1 cut.1)

authority_step : (s : Text) (b : Bool) → begins s (codes "//") ≡ b → IsUtf8 s
    → IsText (cond {A = Option Text × Text} b (Some (split_before (λ c. c == 47) (drop 2 s)).0, (split_before (λ c. c == 47) (drop 2 s)).1) (None, s)).0
    × IsUtf8 (cond {A = Option Text × Text} b (Some (split_before (λ c. c == 47) (drop 2 s)).0, (split_before (λ c. c == 47) (drop 2 s)).1) (None, s)).1
authority_step s true e u =
    let led : IsUtf8 (47 ∷ 47 ∷ drop 2 s) = subst IsUtf8 (front (codes "//") s e) u in
    before_texts (drop 2 s) (past_plain 47 (drop 2 s) (past_plain 47 (47 ∷ drop 2 s) led (omega arith)) (omega arith))
authority_step s false e u = (tt, u)

pub split_texts : (t : Text) → IsUtf8 t → AreTexts (split t)
split_texts t u =
    let f = cut_at (λ c. c == 35) t in
    let q = cut_at (λ c. c == 63) f.0 in
    let s = scheme_and_rest q.0 in
    let at_f = cut_texts 35 (omega arith) t u in
    let at_q = cut_texts 63 (omega arith) f.0 at_f.0 in
    let at_s = scheme_texts q.0 at_q.0 in
    let at_a = authority_step s.1 (begins s.1 (codes "//")) refl at_s.1 in
    record { scheme = at_s.0; authority = at_a.0; path = at_a.1; query = at_q.1; fragment = at_f.1 }
