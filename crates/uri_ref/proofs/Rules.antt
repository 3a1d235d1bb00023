-- Removing dot segments: the rules one by one, and that each shortens what is left.
use Rattle.std.proofs.Common.{◌≡◌, ℕ, zero, suc, ◌+◌, ◌<◌, ◌≤◌, ◌==◌, [], ◌∷◌, ◌++◌, Bool, true, false, not, cond, ◌&&◌, ◌||◌, Option, Some, None, MatchOption, unwrap_or, nat_eq, get_or, take, drop, length, codes, refl, sym, ap, ◌∙◌, arith, append-nil, length-drop, eq-eqb}
use Rattle.std.proofs.lemmas.Bool.{ne_eqb, eqb-true, and_parts}
use Rattle.std.proofs.lemmas.List.Folds.{list_any_at}
use Rattle.std.proofs.lemmas.List.Quantifiers.{position-Some}
use Rattle.std.proofs.lemmas.List.Prefix.{front_fits, front_reads}
use Rattle.std.proofs.lemmas.Str.{IsCharBoundary-before_ascii, IsCharBoundary-after_ascii}
use Rattle.std.specs.Str.{IsCharBoundary, IsUtf8}
use Rattle.std.specs.Cmp.Lexicographic.{pointwise}
use Rattle.std.specs.List.{list_any, position}
use Rattle.definitions.specs.Values.{Text, same_text}
use Rattle.definitions.specs.Uris.{begins}
use Rattle.definitions.specs.Lists.{split_before}
use Rattle.definitions.specs.Resolution.{next_buffers, buffers_after, first_segment, without_last_segment}
use Rattle.uri_ref.specs.Places.{Lacks, IsLast}
use Rattle.uri_ref.proofs.Cuts.{before_some, before_none, slash_is_ascii}

-- ---- a text that begins with another
pub front : (p s : Text) → begins s p ≡ true → s ≡ p ++ drop (length p) s
front [] s h = refl
front (c ∷ p) [] h = cc
front (c ∷ p) (x ∷ s) h =
    let parts = and_parts (nat_eq c x) (pointwise nat_eq p (take (length p) s)) h in
    let same : x ≡ c = sym (eqb-true c x parts.0) in
    rw same (ap (λ r. c ∷ r) (front p s parts.1))

pub boundary_in : (s p : Text) (n : ℕ) → begins s p ≡ true → n < length p → get_or p n 0 < 128 → IsCharBoundary s n
boundary_in s p n h l small =
    let e = front p s h in
    let fits : length p ≤ length s = front_fits s p (drop (length p) s) e in
    let reads : get_or s n 0 ≡ get_or p n 0 = front_reads 0 s p (drop (length p) s) e n l in
    IsCharBoundary-before_ascii s n (omega arith) (omega arith)

pub boundary_after : (s p : Text) (n : ℕ) → IsUtf8 s → begins s p ≡ true → n < length p → get_or p n 0 < 128 → IsCharBoundary s (n + 1)
boundary_after s p n u h l small =
    let e = front p s h in
    let fits : length p ≤ length s = front_fits s p (drop (length p) s) e in
    let reads : get_or s n 0 ≡ get_or p n 0 = front_reads 0 s p (drop (length p) s) e n l in
    IsCharBoundary-after_ascii s n u (omega arith) (omega arith)

-- ---- the output without its last segment
pub any_none : (bs : Text) → Lacks 47 bs → list_any (λ d. d == 47) bs ≡ false
any_none [] h = refl
any_none (x ∷ xs) h =
    let apart : (x == 47) ≡ false = ne_eqb x 47 (h 0 (omega arith)) in
    rw apart (any_none xs (λ i l. h (suc i) (omega arith)))

keeps : (a b : Bool) (y : Text) → b ≡ true → cond (a || b) (cond (a && not b) [] y) [] ≡ y
keeps true true y e = refl
keeps false true y e = refl
keeps a false y e = cc

ends : (a b : Bool) (y : Text) → a ≡ true → b ≡ false → cond (a || b) (cond (a && not b) [] y) [] ≡ []
ends true false y e f = refl
ends true true y e f = cc
ends false b y e f = cc

pub popped_at : (bs : Text) (n : ℕ) → IsLast 47 bs n → take n bs ≡ without_last_segment bs
popped_at [] n h = absurd (omega (arith, h.0))
popped_at (x ∷ xs) zero h =
    sym (ends (x == 47) (list_any (λ d. d == 47) xs) (x ∷ without_last_segment xs) (eq-eqb x 47 h.1) (any_none xs (λ i l. h.2 (suc i) (omega arith) (omega arith))))
popped_at (x ∷ xs) (suc n) h =
    let within : n < length xs = omega (arith, h.0) in
    let later : list_any (λ d. d == 47) xs ≡ true = list_any_at (λ d. d == 47) xs n 0 within (eq-eqb (get_or xs n 0) 47 h.1) in
    ap (λ r. x ∷ r) (popped_at xs n (within, h.1, λ i l m. h.2 (suc i) (omega arith) (omega arith))) ∙ sym (keeps (x == 47) (list_any (λ d. d == 47) xs) (x ∷ without_last_segment xs) later)

pub popped_none : (bs : Text) → Lacks 47 bs → [] ≡ without_last_segment bs
popped_none [] h = refl
popped_none (x ∷ xs) h = let none : list_any (λ d. d == 47) (x ∷ xs) ≡ false = any_none (x ∷ xs) h in rw none refl

pub popped : (bs : Text) (r : Option ℕ) → MatchOption r (Lacks 47 bs) (λ n. IsLast 47 bs n) → take (unwrap_or r 0) bs ≡ without_last_segment bs
popped bs None h = popped_none bs h
popped bs (Some n) h = popped_at bs n h

-- ---- the first segment
pub segment_some : (path : Text) (n : ℕ) → (length path == 0) ≡ false → position (λ d. d == 47) (drop 1 path) ≡ Some n → first_segment path ≡ (take (n + 1) path, drop (n + 1) path)
segment_some [] n h e = cc
segment_some (x ∷ xs) n h e =
    let next : n + 1 ≡ suc n = omega arith in
    rw next (ap (λ (r : Text × Text). (x ∷ r.0, r.1)) (before_some (λ d. d == 47) xs n e))

pub segment_none : (path : Text) → (length path == 0) ≡ false → position (λ d. d == 47) (drop 1 path) ≡ None → first_segment path ≡ (path, [])
segment_none [] h e = cc
segment_none (x ∷ xs) h e = ap (λ (r : Text × Text). (x ∷ r.0, r.1)) (before_none (λ d. d == 47) xs e)

-- where the first segment ends the path may be cut
pub segment_boundary : (path : Text) (n : ℕ) → (length path == 0) ≡ false → position (λ d. d == 47) (drop 1 path) ≡ Some n → IsCharBoundary path (n + 1)
segment_boundary [] n h e = cc
segment_boundary (x ∷ xs) n h e =
    let next : n + 1 ≡ suc n = omega arith in
    let at = position-Some (λ d. d == 47) xs n 0 e in
    rw next (IsCharBoundary-before_ascii (x ∷ xs) (suc n) (omega (arith, at.0)) (slash_is_ascii (get_or xs n 0) at.1))

-- ---- the rules
pub rule_a : (i o : Text) → begins i (codes "../") ≡ true → next_buffers (i, o) ≡ (drop 3 i, o)
rule_a i o e = rw e refl

pub rule_a_dot : (i o : Text) → begins i (codes "../") ≡ false → begins i (codes "./") ≡ true → next_buffers (i, o) ≡ (drop 2 i, o)
rule_a_dot i o e1 e = rw (e1, e) refl

pub rule_b : (i o : Text) → begins i (codes "../") ≡ false → begins i (codes "./") ≡ false → begins i (codes "/./") ≡ true → next_buffers (i, o) ≡ (drop 2 i, o)
rule_b i o e1 e2 e = rw (e1, e2, e) refl

pub rule_b_end : (i o : Text) → begins i (codes "../") ≡ false → begins i (codes "./") ≡ false → begins i (codes "/./") ≡ false → same_text i (codes "/.") ≡ true → next_buffers (i, o) ≡ (codes "/", o)
rule_b_end i o e1 e2 e3 e = rw (e1, e2, e3, e) refl

pub rule_c : (i o : Text) → begins i (codes "../") ≡ false → begins i (codes "./") ≡ false → begins i (codes "/./") ≡ false → same_text i (codes "/.") ≡ false → begins i (codes "/../") ≡ true → next_buffers (i, o) ≡ (drop 3 i, without_last_segment o)
rule_c i o e1 e2 e3 e4 e = rw (e1, e2, e3, e4, e) refl

pub rule_c_end : (i o : Text) → begins i (codes "../") ≡ false → begins i (codes "./") ≡ false → begins i (codes "/./") ≡ false → same_text i (codes "/.") ≡ false → begins i (codes "/../") ≡ false → same_text i (codes "/..") ≡ true → next_buffers (i, o) ≡ (codes "/", without_last_segment o)
rule_c_end i o e1 e2 e3 e4 e5 e = rw (e1, e2, e3, e4, e5, e) refl

pub rule_d : (i o : Text) → begins i (codes "../") ≡ false → begins i (codes "./") ≡ false → begins i (codes "/./") ≡ false → same_text i (codes "/.") ≡ false → begins i (codes "/../") ≡ false → same_text i (codes "/..") ≡ false → (same_text i (codes ".") || same_text i (codes "..")) ≡ true → next_buffers (i, o) ≡ ([], o)
rule_d i o e1 e2 e3 e4 e5 e6 e = rw (e1, e2, e3, e4, e5, e6, e) refl

pub rule_e : (i o : Text) → begins i (codes "../") ≡ false → begins i (codes "./") ≡ false → begins i (codes "/./") ≡ false → same_text i (codes "/.") ≡ false → begins i (codes "/../") ≡ false → same_text i (codes "/..") ≡ false → (same_text i (codes ".") || same_text i (codes "..")) ≡ false → next_buffers (i, o) ≡ ((first_segment i).1, o ++ (first_segment i).0)
rule_e i o e1 e2 e3 e4 e5 e6 e = rw (e1, e2, e3, e4, e5, e6, e) refl

-- ---- each rewriting shortens what is left
pub whichever : (P : Text × Text → Type 0) (b : Bool) (x y : Text × Text) → (b ≡ true → P x) → P y → P (cond b x y)
whichever P true x y h k = h refl
whichever P false x y h k = k

same_length : (s t : Text) → same_text s t ≡ true → length s ≡ length t
same_length [] [] h = refl
same_length [] (y ∷ t) h = cc
same_length (x ∷ s) [] h = cc
same_length (x ∷ s) (y ∷ t) h = ap (λ n. suc n) (same_length s t (and_parts (nat_eq x y) (pointwise nat_eq s t) h).1)

cut_within : (p : ℕ → Bool) (b : Bool) (x : ℕ) (xs : Text) (r : Text × Text) → length r.1 ≤ length xs → length (cond {A = Text × Text} b ([], x ∷ xs) (x ∷ r.0, r.1)).1 ≤ suc (length xs)
cut_within p true x xs r h = omega arith
cut_within p false x xs r h = omega arith

pub before_within : (p : ℕ → Bool) (xs : Text) → length (split_before p xs).1 ≤ length xs
before_within p [] = omega arith
before_within p (x ∷ xs) = cut_within p (p x) x xs (split_before p xs) (before_within p xs)

pub shorter : (c : ℕ) (cs o : Text) → length (next_buffers (c ∷ cs, o)).0 ≤ length cs
shorter c cs o =
    let P : Text × Text → Type 0 = λ s. length s.0 ≤ length cs in
    whichever P (begins (c ∷ cs) (codes "../")) _ _ (λ _. rw length-drop (omega arith))
    (whichever P (begins (c ∷ cs) (codes "./")) _ _ (λ _. rw length-drop (omega arith))
    (whichever P (begins (c ∷ cs) (codes "/./")) _ _ (λ _. rw length-drop (omega arith))
    (whichever P (same_text (c ∷ cs) (codes "/.")) _ _ (λ e. omega (arith, same_length (c ∷ cs) (codes "/.") e))
    (whichever P (begins (c ∷ cs) (codes "/../")) _ _ (λ _. rw length-drop (omega arith))
    (whichever P (same_text (c ∷ cs) (codes "/..")) _ _ (λ e. omega (arith, same_length (c ∷ cs) (codes "/..") e))
    (whichever P (same_text (c ∷ cs) (codes ".") || same_text (c ∷ cs) (codes "..")) _ _ (λ _. omega arith)
    (before_within (λ d. d == 47) cs)))))))

empty_stays : (n : ℕ) (o : Text) → buffers_after n ([], o) ≡ ([], o)
empty_stays zero o = refl
empty_stays (suc n) o = rw (append-nil o) (empty_stays n o)

stable : (m n : ℕ) (i o : Text) → length i ≤ m → length i ≤ n → buffers_after m (i, o) ≡ buffers_after n (i, o)
stable m n [] o l k = empty_stays m o ∙ sym (empty_stays n o)
stable zero n (c ∷ cs) o l k = absurd (omega arith)
stable (suc m) zero (c ∷ cs) o l k = absurd (omega arith)
stable (suc m) (suc n) (c ∷ cs) o l k =
    let less = shorter c cs o in
    stable m n (next_buffers (c ∷ cs, o)).0 (next_buffers (c ∷ cs, o)).1 (omega (arith, less)) (omega (arith, less))

-- what is left, and the output, after one more rewriting
pub after_one : (i o left out : Text) → (length i == 0) ≡ false → (left, out) ≡ next_buffers (i, o) → buffers_after (length left) (left, out) ≡ buffers_after (length i) (i, o)
after_one [] o left out h e = cc
after_one (c ∷ cs) o left out h e =
    let less : length left ≤ length cs = rw (ap (λ (s : Text × Text). s.0) e) (shorter c cs o) in
    stable (length left) (length cs) left out (omega arith) less ∙ ap (buffers_after (length cs)) e

pub shorter_after : (i o left out : Text) → (length i == 0) ≡ false → (left, out) ≡ next_buffers (i, o) → length left < length i
shorter_after [] o left out h e = cc
shorter_after (c ∷ cs) o left out h e =
    let less : length left ≤ length cs = rw (ap (λ (s : Text × Text). s.0) e) (shorter c cs o) in
    omega (arith, less)
