-- A path with no dot segment stays as it is.
use Rattle.std.proofs.Common.{◌≡◌, ℕ, zero, suc, ◌≤◌, ◌==◌, List, [], ◌∷◌, ◌++◌, Bool, true, false, ◌||◌, cond, drop, length, codes, refl, sym, ap, ◌∙◌, arith, append-nil, append_assoc}
use Rattle.std.proofs.lemmas.Bool.{or_parts, or_from}
use Rattle.std.specs.List.{list_any, slice_split, onto_first}
use Rattle.definitions.specs.Values.{Text, same_text}
use Rattle.definitions.specs.Uris.{begins, is_dot_segment}
use Rattle.definitions.specs.Lists.{split_before}
use Rattle.definitions.specs.Resolution.{next_buffers, buffers_after, remove_dot_segments, first_segment}
use Rattle.lemmas.proofs.Texts.{same_text_is}
use Rattle.uri_ref.proofs.Rules.{front, rule_e, before_within}
use Rattle.uri_ref.proofs.Recomposed.{before_joined}

abbrev has_dots : Text → Bool
has_dots path = list_any is_dot_segment (slice_split (λ c. c == 47) path)

false_unless : (b : Bool) → (b ≡ true → true ≡ false) → b ≡ false
false_unless true h = h refl
false_unless false h = refl

-- where the path begins so, it has a dot segment
no_a : (i : Text) → has_dots i ≡ false → begins i (codes "../") ≡ false
no_a i h = false_unless _ (λ e. sym (ap has_dots (front (codes "../") i e)) ∙ h)

no_a_dot : (i : Text) → has_dots i ≡ false → begins i (codes "./") ≡ false
no_a_dot i h = false_unless _ (λ e. sym (ap has_dots (front (codes "./") i e)) ∙ h)

no_b : (i : Text) → has_dots i ≡ false → begins i (codes "/./") ≡ false
no_b i h = false_unless _ (λ e. sym (ap has_dots (front (codes "/./") i e)) ∙ h)

no_b_end : (i : Text) → has_dots i ≡ false → same_text i (codes "/.") ≡ false
no_b_end i h = false_unless _ (λ e. sym (ap has_dots (same_text_is i (codes "/.") e)) ∙ h)

no_c : (i : Text) → has_dots i ≡ false → begins i (codes "/../") ≡ false
no_c i h = false_unless _ (λ e. sym (ap has_dots (front (codes "/../") i e)) ∙ h)

no_c_end : (i : Text) → has_dots i ≡ false → same_text i (codes "/..") ≡ false
no_c_end i h = false_unless _ (λ e. sym (ap has_dots (same_text_is i (codes "/..") e)) ∙ h)

no_d : (i : Text) → has_dots i ≡ false → (same_text i (codes ".") || same_text i (codes "..")) ≡ false
no_d i h =
    or_from (same_text i (codes ".")) (same_text i (codes ".."))
    (false_unless _ (λ e. sym (ap has_dots (same_text_is i (codes ".") e)) ∙ h))
    (false_unless _ (λ e. sym (ap has_dots (same_text_is i (codes "..") e)) ∙ h))

-- ---- what follows the first segment has no dot segment either
drop_onto : (x : ℕ) (ps : List Text) → drop 1 (onto_first x ps) ≡ drop 1 ps
drop_onto x [] = refl
drop_onto x (p ∷ ps) = refl

tail_step : (x : ℕ) (xs : Text) (b : Bool) (r : Text × Text) → (x == 47) ≡ b → has_dots r.1 ≡ list_any is_dot_segment (drop 1 (slice_split (λ c. c == 47) xs))
    → has_dots (cond {A = Text × Text} b ([], x ∷ xs) (x ∷ r.0, r.1)).1 ≡ list_any is_dot_segment (drop 1 (cond {A = List Text} b ([] ∷ slice_split (λ c. c == 47) xs) (onto_first x (slice_split (λ c. c == 47) xs))))
tail_step x xs true r e h = rw e refl
tail_step x xs false r e h = h ∙ ap (list_any is_dot_segment) (sym (drop_onto x (slice_split (λ c. c == 47) xs)))

tail_dots : (xs : Text) → has_dots (split_before (λ c. c == 47) xs).1 ≡ list_any is_dot_segment (drop 1 (slice_split (λ c. c == 47) xs))
tail_dots [] = refl
tail_dots (x ∷ xs) = tail_step x xs (x == 47) (split_before (λ c. c == 47) xs) refl (tail_dots xs)

any_tail : (ps : List Text) → list_any is_dot_segment ps ≡ false → list_any is_dot_segment (drop 1 ps) ≡ false
any_tail [] h = refl
any_tail (p ∷ ps) h = (or_parts (is_dot_segment p) (list_any is_dot_segment ps) h).1

rest_step : (x : ℕ) (ps : List Text) (b : Bool) → list_any is_dot_segment (cond {A = List Text} b ([] ∷ ps) (onto_first x ps)) ≡ false → list_any is_dot_segment (drop 1 ps) ≡ false
rest_step x ps true h = any_tail ps h
rest_step x ps false h = ap (list_any is_dot_segment) (sym (drop_onto x ps)) ∙ any_tail (onto_first x ps) h

rest_undotted : (c : ℕ) (cs : Text) → has_dots (c ∷ cs) ≡ false → has_dots (first_segment (c ∷ cs)).1 ≡ false
rest_undotted c cs h = tail_dots cs ∙ rest_step c (slice_split (λ d. d == 47) cs) (c == 47) h

moved : (i o : Text) → has_dots i ≡ false → next_buffers (i, o) ≡ ((first_segment i).1, o ++ (first_segment i).0)
moved i o h = rule_e i o (no_a i h) (no_a_dot i h) (no_b i h) (no_b_end i h) (no_c i h) (no_c_end i h) (no_d i h)

segment_joined : (i : Text) → (first_segment i).0 ++ (first_segment i).1 ≡ i
segment_joined [] = refl
segment_joined (c ∷ cs) = ap (λ r. c ∷ r) (before_joined (λ d. d == 47) cs)

all_moved : (n : ℕ) (i o : Text) → length i ≤ n → has_dots i ≡ false → (buffers_after n (i, o)).1 ≡ o ++ i
all_moved zero [] o l h = sym (append-nil o)
all_moved zero (c ∷ cs) o l h = absurd (omega arith)
all_moved (suc n) [] o l h = all_moved n [] (o ++ []) (omega arith) refl ∙ append-nil (o ++ [])
all_moved (suc n) (c ∷ cs) o l h =
    let step = moved (c ∷ cs) o h in
    let fewer : length (first_segment (c ∷ cs)).1 ≤ length cs = before_within (λ d. d == 47) cs in
    let less : length (first_segment (c ∷ cs)).1 ≤ n = omega arith in
    ap (λ (s : Text × Text). (buffers_after n s).1) step
    ∙ all_moved n (first_segment (c ∷ cs)).1 (o ++ (first_segment (c ∷ cs)).0) less (rest_undotted c cs h)
    ∙ append_assoc o (first_segment (c ∷ cs)).0 (first_segment (c ∷ cs)).1
    ∙ ap (λ r. o ++ r) (segment_joined (c ∷ cs))

pub undotted : (path : Text) → has_dots path ≡ false → remove_dot_segments path ≡ path
undotted path h = all_moved (length path) path [] (omega arith) h
