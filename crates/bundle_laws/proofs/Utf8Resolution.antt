-- What references in UTF-8 resolve to is in UTF-8 too.
use Rattle.std.proofs.Common.{◌≡◌, ◌==◌, ◌&&◌, ◌||◌, ◌++◌, ℕ, zero, suc, [], ◌∷◌, Bool, true, false, not, cond, Option, is_some, drop, length, codes, refl, sym, ap, ap₂, subst, ◌∙◌, arith}
use Rattle.std.proofs.lemmas.Bool.{eqb-true}
use Rattle.std.proofs.lemmas.Str.{IsUtf8-nil, IsUtf8-append}
use Rattle.std.specs.List.{list_any}
use Rattle.std.specs.Str.{IsUtf8}
use Rattle.definitions.specs.Values.{Text, same_text}
use Rattle.definitions.specs.Uris.{Parts, begins}
use Rattle.definitions.specs.Lists.{split_before}
use Rattle.definitions.specs.Resolution.{resolve, merge, remove_dot_segments, next_buffers, buffers_after, first_segment, without_last_segment, up_to_last_slash, is_empty}
use Rattle.uri_ref.proofs.Missing.{rest_is_rooted}
use Rattle.uri_ref.proofs.Recomposed.{before_joined}
use Rattle.uri_ref.proofs.Rules.{front, whichever}
use Rattle.bundle_laws.proofs.Utf8Parts.{IsPlainFirst, halves, past_plain, slash, rooted_plain, IsText, AreTexts}

-- ---- paths without dot segments
abbrev has_slash : Text → Bool
has_slash t = list_any (λ d. d == 47) t

-- what stands before the last slash, and what follows
record IsCutLast (t : Text) : Type 0 where
  rest : Text
  joined : without_last_segment t ++ rest ≡ t
  plain : has_slash t ≡ true → IsPlainFirst rest

pop_step : (c : ℕ) (cs : Text) (a b : Bool) → (c == 47) ≡ a → has_slash cs ≡ b → IsCutLast cs → (rest : Text)
    × (cond (a || b) (cond (a && not b) [] (c ∷ without_last_segment cs)) [] ++ rest ≡ c ∷ cs) × ((a || b) ≡ true → IsPlainFirst rest)
pop_step c cs true true e f h = (h.rest, ap (λ r. c ∷ r) h.joined, λ k. h.plain f)
pop_step c cs true false e f h = (c ∷ cs, refl, λ k. let same : c ≡ 47 = eqb-true c 47 e in omega arith)
pop_step c cs false true e f h = (h.rest, ap (λ r. c ∷ r) h.joined, λ k. h.plain f)
pop_step c cs false false e f h = (c ∷ cs, refl, λ k. absurd (let no : false ≡ true = k in cc))

cut_last : (t : Text) → IsCutLast t
cut_last [] = record { rest = []; joined = refl; plain = λ k. tt }
cut_last (c ∷ cs) =
    let s = pop_step c cs (c == 47) (has_slash cs) refl refl (cut_last cs) in
    record { rest = s.0; joined = s.1; plain = s.2 }

none_popped : (c : ℕ) (cs : Text) (b : Bool) → has_slash (c ∷ cs) ≡ b → b ≡ false → IsUtf8 (without_last_segment (c ∷ cs))
none_popped c cs true e f = absurd (cc)
none_popped c cs false e f = subst IsUtf8 (sym (ap (λ b. cond b (cond ((c == 47) && not (has_slash cs)) [] (c ∷ without_last_segment cs)) []) e)) IsUtf8-nil

popped_text : (t : Text) → IsUtf8 t → IsUtf8 (without_last_segment t)
popped_text [] u = u
popped_text (c ∷ cs) u = by (has_slash (c ∷ cs)) refl
  where
    by : (b : Bool) → has_slash (c ∷ cs) ≡ b → IsUtf8 (without_last_segment (c ∷ cs))
    by true e = let h = cut_last (c ∷ cs) in (halves (without_last_segment (c ∷ cs)) h.rest (subst IsUtf8 (sym h.joined) u) (h.plain e)).0
    by false e = none_popped c cs false e refl

segment_texts : (t : Text) → IsUtf8 t → IsUtf8 (first_segment t).0 × IsUtf8 (first_segment t).1
segment_texts [] u = (u, u)
segment_texts (c ∷ cs) u =
    let r = split_before (λ d. d == 47) cs in
    halves (c ∷ r.0) r.1 (subst IsUtf8 (sym (ap (λ x. c ∷ x) (before_joined (λ d. d == 47) cs))) u) (rooted_plain r.1 (rest_is_rooted cs))

step_texts : (i o : Text) → IsUtf8 i → IsUtf8 o → IsUtf8 (next_buffers (i, o)).0 × IsUtf8 (next_buffers (i, o)).1
step_texts i o ui uo =
    let P : Text × Text → Type 0 = λ s. IsUtf8 s.0 × IsUtf8 s.1 in
    let popped = popped_text o uo in
    let segment = segment_texts i ui in
    whichever P (begins i (codes "../")) _ _
    (λ e. let u : IsUtf8 (46 ∷ 46 ∷ 47 ∷ drop 3 i) = subst IsUtf8 (front (codes "../") i e) ui in
    (past_plain 47 (drop 3 i) (past_plain 46 (47 ∷ drop 3 i) (past_plain 46 (46 ∷ 47 ∷ drop 3 i) u (omega arith)) (omega arith)) (omega arith), uo))
    (whichever P (begins i (codes "./")) _ _
    (λ e. let u : IsUtf8 (46 ∷ 47 ∷ drop 2 i) = subst IsUtf8 (front (codes "./") i e) ui in
    (past_plain 47 (drop 2 i) (past_plain 46 (47 ∷ drop 2 i) u (omega arith)) (omega arith), uo))
    (whichever P (begins i (codes "/./")) _ _
    (λ e. let same : i ≡ 47 ∷ 46 ∷ 47 ∷ drop 3 i = front (codes "/./") i e in
    let u : IsUtf8 (47 ∷ 46 ∷ 47 ∷ drop 3 i) = subst IsUtf8 same ui in
    (subst IsUtf8 (sym (ap (drop 2) same)) (past_plain 46 (47 ∷ drop 3 i) (past_plain 47 (46 ∷ 47 ∷ drop 3 i) u (omega arith)) (omega arith)), uo))
    (whichever P (same_text i (codes "/.")) _ _ (λ e. (slash, uo))
    (whichever P (begins i (codes "/../")) _ _
    (λ e. let same : i ≡ 47 ∷ 46 ∷ 46 ∷ 47 ∷ drop 4 i = front (codes "/../") i e in
    let u : IsUtf8 (47 ∷ 46 ∷ 46 ∷ 47 ∷ drop 4 i) = subst IsUtf8 same ui in (
      subst IsUtf8 (sym (ap (drop 3) same))
          (past_plain 46 (47 ∷ drop 4 i) (past_plain 46 (46 ∷ 47 ∷ drop 4 i) (past_plain 47 (46 ∷ 46 ∷ 47 ∷ drop 4 i) u (omega arith)) (omega arith)) (omega arith)),
      popped,
    ))
    (whichever P (same_text i (codes "/..")) _ _ (λ e. (slash, popped))
    (whichever P (same_text i (codes ".") || same_text i (codes "..")) _ _ (λ e. (IsUtf8-nil, uo))
    (segment.1, IsUtf8-append o (first_segment i).0 uo segment.0)))))))

times_texts : (n : ℕ) (i o : Text) → IsUtf8 i → IsUtf8 o → IsUtf8 (buffers_after n (i, o)).1
times_texts zero i o ui uo = uo
times_texts (suc n) i o ui uo = let step = step_texts i o ui uo in times_texts n (next_buffers (i, o)).0 (next_buffers (i, o)).1 step.0 step.1

undotted_text : (path : Text) → IsUtf8 path → IsUtf8 (remove_dot_segments path)
undotted_text path u = times_texts (length path) path [] u IsUtf8-nil

-- ---- a merged path
record IsUpTo (t : Text) : Type 0 where
  before : Text
  rest : Text
  up : up_to_last_slash t ≡ before ++ 47 ∷ []
  whole : before ++ 47 ∷ rest ≡ t

no_slash : (t : Text) → has_slash t ≡ false → up_to_last_slash t ≡ []
no_slash [] h = refl
no_slash (c ∷ cs) h = ap (λ b. cond b (c ∷ up_to_last_slash cs) []) h

up_step : (c : ℕ) (cs : Text) (a b : Bool) → (c == 47) ≡ a → has_slash cs ≡ b → (has_slash cs ≡ true → IsUpTo cs) → (a || b) ≡ true
    → (before : Text) × (rest : Text) × (c ∷ up_to_last_slash cs ≡ before ++ 47 ∷ []) × (before ++ 47 ∷ rest ≡ c ∷ cs)
up_step c cs a true e f later h =
    let l = later f in
    (c ∷ l.before, l.rest, ap (λ r. c ∷ r) l.up, ap (λ r. c ∷ r) l.whole)
up_step c cs true false e f later h =
    let same : c ≡ 47 = eqb-true c 47 e in
    ([], cs, ap₂ (λ x r. x ∷ r) same (no_slash cs f), ap (λ x. x ∷ cs) (sym same))
up_step c cs false false e f later h = absurd (let no : false ≡ true = h in cc)

up_to : (t : Text) → has_slash t ≡ true → IsUpTo t
up_to [] h = absurd (let no : false ≡ true = h in cc)
up_to (c ∷ cs) h =
    let s = up_step c cs (c == 47) (has_slash cs) refl refl (up_to cs) h in
    record { before = s.0; rest = s.1; up = ap (λ b. cond b (c ∷ up_to_last_slash cs) []) h ∙ s.2; whole = s.3 }

up_text : (t : Text) → IsUtf8 t → IsUtf8 (up_to_last_slash t)
up_text t u = by (has_slash t) refl
  where
    by : (b : Bool) → has_slash t ≡ b → IsUtf8 (up_to_last_slash t)
    by false e = subst IsUtf8 (sym (no_slash t e)) IsUtf8-nil
    by true e =
        let l = up_to t e in
        let front_text = (halves l.before (47 ∷ l.rest) (subst IsUtf8 (sym l.whole) u) (omega arith)).0 in
        subst IsUtf8 (sym l.up) (IsUtf8-append l.before (47 ∷ []) front_text slash)

merge_text : (b : Bool) (base path : Text) → IsUtf8 base → IsUtf8 path → IsUtf8 (cond b (47 ∷ path) (up_to_last_slash base ++ path))
merge_text true base path u v = IsUtf8-append (47 ∷ []) path slash v
merge_text false base path u v = IsUtf8-append (up_to_last_slash base) path (up_text base u) v

-- ---- what parts resolve to
either : (b : Bool) (x y : Parts) → AreTexts x → AreTexts y → AreTexts (cond b x y)
either true x y h k = h
either false x y h k = k

chosen : (b : Bool) (o p : Option Text) → IsText o → IsText p → IsText (cond b o p)
chosen true o p h k = h
chosen false o p h k = k

pub resolve_texts : (base r : Parts) → AreTexts base → AreTexts r → AreTexts (resolve base r)
resolve_texts base r hb hr =
    let path = undotted_text r.path hr.path in
    let merged = undotted_text (merge base r.path) (merge_text (is_some base.authority && is_empty base.path) base.path r.path hb.path hr.path) in
    either (is_some r.scheme) _ _ (record { scheme = hr.scheme; authority = hr.authority; path = path; query = hr.query; fragment = hr.fragment })
    (either (is_some r.authority) _ _ (record { scheme = hb.scheme; authority = hr.authority; path = path; query = hr.query; fragment = hr.fragment })
    (either (is_empty r.path) _ _
    (record { scheme = hb.scheme; authority = hb.authority; path = hb.path; query = chosen (is_some r.query) r.query base.query hr.query hb.query; fragment = hr.fragment })
    (either (begins r.path (codes "/")) _ _ (record { scheme = hb.scheme; authority = hb.authority; path = path; query = hr.query; fragment = hr.fragment })
    (record { scheme = hb.scheme; authority = hb.authority; path = merged; query = hr.query; fragment = hr.fragment }))))
