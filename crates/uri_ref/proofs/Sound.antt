-- What holds of the parts of every text, and of the parts that such parts resolve to.
use Rattle.std.proofs.Common.{◌≡◌, ℕ, zero, suc, ◌==◌, [], ◌∷◌, ◌++◌, Bool, true, false, not, ◌||◌, ◌&&◌, cond, Option, Some, None, is_some, unwrap_or, drop, length, codes, refl, sym, ap, subst, ◌∙◌, append-nil}
use Rattle.std.proofs.lemmas.Bool.{or_from, or_parts, or_right, eqb-true}
use Rattle.std.specs.List.{list_any}
use Rattle.definitions.specs.Values.{Text, same_text}
use Rattle.definitions.specs.Uris.{Parts, split, begins, is_free_of, is_scheme, led_by, ended_by, option_all, scheme_and_rest, authority_and_path}
use Rattle.definitions.specs.Lists.{cut_at, split_before}
use Rattle.definitions.specs.Resolution.{resolve, merge, remove_dot_segments, next_buffers, buffers_after, first_segment, without_last_segment, up_to_last_slash, is_empty}
use Rattle.uri_ref.specs.Soundness.{AreSound}
use Rattle.uri_ref.proofs.Missing.{Misses, one_of, misses_from, free_from, joined_misses, halves_miss, rest_misses, none_missed, more_missed, cut_misses, before_misses, is_rooted, rest_is_rooted, rooted_from, rooted_text}
use Rattle.uri_ref.proofs.Recomposed.{before_joined, cut_joined, scheme_joined, authority_joined}
use Rattle.uri_ref.proofs.Rules.{front, whichever}

-- ---- the parts of a text
option_misses : (p : ℕ → Bool) (sign : Text) (o : Option Text) → Misses p (led_by sign o) → (t : Text) → o ≡ Some t → Misses p t
option_misses p sign None h t e = cc
option_misses p sign (Some s) h t e = let same : s ≡ t = cc in ap (list_any p) (sym same) ∙ (halves_miss p sign s h).1

all_of : (f : Text → Bool) (o : Option Text) → ((t : Text) → o ≡ Some t → f t ≡ true) → option_all f o ≡ true
all_of f None h = refl
all_of f (Some t) h = h t refl

scheme_step : (s a rest : Text) (b c : Bool) → is_scheme a ≡ c → option_all is_scheme (cond {A = Option Text × Text} (b && c) (Some a, rest) (None, s)).0 ≡ true
scheme_step s a rest true true e = e
scheme_step s a rest true false e = refl
scheme_step s a rest false c e = refl

scheme_is : (s : Text) → option_all is_scheme (scheme_and_rest s).0 ≡ true
scheme_is s = let r = cut_at (λ c. c == 58) s in scheme_step s r.0 (unwrap_or r.1 []) (is_some r.1) (is_scheme r.0) refl

authority_step : (s : Text) (b : Bool) → (t : Text)
    → (cond {A = Option Text × Text} b (Some (split_before (λ c. c == 47) (drop 2 s)).0, (split_before (λ c. c == 47) (drop 2 s)).1) (None, s)).0 ≡ Some t → Misses (λ c. c == 47) t
authority_step s true t e = let same : (split_before (λ c. c == 47) (drop 2 s)).0 ≡ t = cc in ap (list_any (λ c. c == 47)) (sym same) ∙ before_misses 47 (drop 2 s)
authority_step s false t e = cc

rooted_step : (s : Text) (b : Bool) → let a = cond {A = Option Text × Text} b (Some (split_before (λ c. c == 47) (drop 2 s)).0, (split_before (λ c. c == 47) (drop 2 s)).1) (None, s) in is_some a.0 ≡ true → is_rooted a.1 ≡ true
rooted_step s true h = rest_is_rooted (drop 2 s)
rooted_step s false h = cc

two_missed : (t : Text) → Misses (λ c. c == 63) t → Misses (λ c. c == 35) t → Misses (one_of (codes "?#")) t
two_missed t q f = more_missed 63 (codes "#") t q (more_missed 35 [] t f (none_missed t))

three_missed : (t : Text) → Misses (λ c. c == 47) t → Misses (λ c. c == 63) t → Misses (λ c. c == 35) t → Misses (one_of (codes "/?#")) t
three_missed t s q f = more_missed 47 (codes "?#") t s (two_missed t q f)

pub split_sound : (t : Text) → AreSound (split t)
split_sound t =
    let f = cut_at (λ c. c == 35) t in
    let q = cut_at (λ c. c == 63) f.0 in
    let s = scheme_and_rest q.0 in
    let a = authority_and_path s.1 in
    let halves = halves_miss (λ c. c == 35) q.0 (led_by (codes "?") q.1) (ap (list_any (λ c. c == 35)) (cut_joined 63 f.0) ∙ cut_misses 35 t) in
    let rest_f = (halves_miss (λ c. c == 35) (ended_by s.0 (codes ":")) s.1 (ap (list_any (λ c. c == 35)) (scheme_joined q.0) ∙ halves.0)).1 in
    let rest_q = (halves_miss (λ c. c == 63) (ended_by s.0 (codes ":")) s.1 (ap (list_any (λ c. c == 63)) (scheme_joined q.0) ∙ cut_misses 63 f.0)).1 in
    let path_f = halves_miss (λ c. c == 35) (led_by (codes "//") a.0) a.1 (ap (list_any (λ c. c == 35)) (authority_joined s.1) ∙ rest_f) in
    let path_q = halves_miss (λ c. c == 63) (led_by (codes "//") a.0) a.1 (ap (list_any (λ c. c == 63)) (authority_joined s.1) ∙ rest_q) in
    record {
      scheme = scheme_is q.0;
      authority =
          all_of (is_free_of (codes "/?#")) a.0 (λ u e. free_from (codes "/?#") u (three_missed u (authority_step s.1 (begins s.1 (codes "//")) u e)
          (option_misses (λ c. c == 63) (codes "//") a.0 path_q.0 u e) (option_misses (λ c. c == 35) (codes "//") a.0 path_f.0 u e)));
      path = free_from (codes "?#") a.1 (two_missed a.1 path_q.1 path_f.1);
      rooted = λ e. rooted_text a.1 (rooted_step s.1 (begins s.1 (codes "//")) e);
      query = all_of (is_free_of (codes "#")) q.1 (λ u e. free_from (codes "#") u (more_missed 35 [] u (option_misses (λ c. c == 35) (codes "?") q.1 halves.1 u e) (none_missed u)));
    }

-- ---- paths without dot segments
popped_misses_step : (p : ℕ → Bool) (c : ℕ) (cs : Text) (a b : Bool) → p c ≡ false → Misses p (without_last_segment cs) → Misses p (cond a (cond b [] (c ∷ without_last_segment cs)) [])
popped_misses_step p c cs true true e h = refl
popped_misses_step p c cs true false e h = or_from (p c) (list_any p (without_last_segment cs)) e h
popped_misses_step p c cs false b e h = refl

popped_misses : (p : ℕ → Bool) (t : Text) → Misses p t → Misses p (without_last_segment t)
popped_misses p [] h = refl
popped_misses p (c ∷ cs) h =
    let parts = or_parts (p c) (list_any p cs) h in
    popped_misses_step p c cs (list_any (λ d. d == 47) (c ∷ cs)) ((c == 47) && not (list_any (λ d. d == 47) cs)) parts.0 (popped_misses p cs parts.1)

segment_misses : (p : ℕ → Bool) (t : Text) → Misses p t → Misses p (first_segment t).0 × Misses p (first_segment t).1
segment_misses p [] h = (refl, refl)
segment_misses p (c ∷ cs) h =
    let r = split_before (λ d. d == 47) cs in
    halves_miss p (c ∷ r.0) r.1 (ap (λ x. list_any p (c ∷ x)) (before_joined (λ d. d == 47) cs) ∙ h)

step_misses : (p : ℕ → Bool) (i o : Text) → p 47 ≡ false → Misses p i → Misses p o → Misses p (next_buffers (i, o)).0 × Misses p (next_buffers (i, o)).1
step_misses p i o slash hi ho =
    let P : Text × Text → Type 0 = λ s. Misses p s.0 × Misses p s.1 in
    let root : Misses p (codes "/") = or_from (p 47) false slash refl in
    let popped = popped_misses p o ho in
    let segment = segment_misses p i hi in
    whichever P (begins i (codes "../")) _ _ (λ _. (rest_misses p 3 i hi, ho))
    (whichever P (begins i (codes "./")) _ _ (λ _. (rest_misses p 2 i hi, ho))
    (whichever P (begins i (codes "/./")) _ _ (λ _. (rest_misses p 2 i hi, ho))
    (whichever P (same_text i (codes "/.")) _ _ (λ _. (root, ho))
    (whichever P (begins i (codes "/../")) _ _ (λ _. (rest_misses p 3 i hi, popped))
    (whichever P (same_text i (codes "/..")) _ _ (λ _. (root, popped))
    (whichever P (same_text i (codes ".") || same_text i (codes "..")) _ _ (λ _. (refl, ho))
    (segment.1, joined_misses p o (first_segment i).0 ho segment.0)))))))

times_miss : (p : ℕ → Bool) (n : ℕ) (i o : Text) → p 47 ≡ false → Misses p i → Misses p o → Misses p (buffers_after n (i, o)).1
times_miss p zero i o slash hi ho = ho
times_miss p (suc n) i o slash hi ho =
    let step = step_misses p i o slash hi ho in
    times_miss p n (next_buffers (i, o)).0 (next_buffers (i, o)).1 slash step.0 step.1

undotted_misses : (p : ℕ → Bool) (path : Text) → p 47 ≡ false → Misses p path → Misses p (remove_dot_segments path)
undotted_misses p path slash h = times_miss p (length path) path [] slash h refl

undotted_free : (path : Text) → is_free_of (codes "?#") path ≡ true → is_free_of (codes "?#") (remove_dot_segments path) ≡ true
undotted_free path h = free_from (codes "?#") (remove_dot_segments path) (undotted_misses (one_of (codes "?#")) path refl (misses_from (codes "?#") path h))

popped_rooted_step : (c : ℕ) (t : Text) (a b : Bool) → (47 == c) ≡ true → is_rooted (cond a (cond b [] (c ∷ t)) []) ≡ true
popped_rooted_step c t true true h = refl
popped_rooted_step c t true false h = h
popped_rooted_step c t false b h = refl

popped_rooted : (t : Text) → is_rooted t ≡ true → is_rooted (without_last_segment t) ≡ true
popped_rooted [] h = refl
popped_rooted (c ∷ cs) h = popped_rooted_step c (without_last_segment cs) (list_any (λ d. d == 47) (c ∷ cs)) ((c == 47) && not (list_any (λ d. d == 47) cs)) h

pub joined_rooted : (s t : Text) → is_rooted s ≡ true → is_rooted t ≡ true → is_rooted (s ++ t) ≡ true
joined_rooted [] t h k = k
joined_rooted (c ∷ cs) t h k = h

step_rooted : (i o : Text) → is_rooted (47 ∷ i) ≡ true → is_rooted o ≡ true → (is_rooted (next_buffers (47 ∷ i, o)).0 ≡ true) × (is_rooted (next_buffers (47 ∷ i, o)).1 ≡ true)
step_rooted i o hi ho =
    let P : Text × Text → Type 0 = λ s. (is_rooted s.0 ≡ true) × (is_rooted s.1 ≡ true) in
    let popped = popped_rooted o ho in
    whichever P (begins (47 ∷ i) (codes "/./")) _ _ (λ e. (ap (λ t. is_rooted (drop 2 t)) (front (codes "/./") (47 ∷ i) e), ho))
    (whichever P (same_text (47 ∷ i) (codes "/.")) _ _ (λ _. (refl, ho))
    (whichever P (begins (47 ∷ i) (codes "/../")) _ _ (λ e. (ap (λ t. is_rooted (drop 3 t)) (front (codes "/../") (47 ∷ i) e), popped))
    (whichever P (same_text (47 ∷ i) (codes "/..")) _ _ (λ _. (refl, popped))
    (rest_is_rooted i, joined_rooted o (first_segment (47 ∷ i)).0 ho refl))))

times_rooted : (n : ℕ) (i o : Text) → is_rooted i ≡ true → is_rooted o ≡ true → is_rooted (buffers_after n (i, o)).1 ≡ true
times_rooted zero i o hi ho = ho
times_rooted (suc n) [] o hi ho = times_rooted n [] (o ++ []) refl (ap is_rooted (append-nil o) ∙ ho)
times_rooted (suc n) (c ∷ cs) o hi ho =
    let slash : 47 ≡ c = eqb-true 47 c hi in
    let step = step_rooted cs o refl ho in
    rw (sym slash) (times_rooted n (next_buffers (47 ∷ cs, o)).0 (next_buffers (47 ∷ cs, o)).1 step.0 step.1)

undotted_rooted : (path : Text) → is_rooted path ≡ true → is_rooted (remove_dot_segments path) ≡ true
undotted_rooted path h = times_rooted (length path) path [] h refl

-- ---- a merged path
up_to_misses_step : (p : ℕ → Bool) (c : ℕ) (cs : Text) (b : Bool) → p c ≡ false → Misses p (up_to_last_slash cs) → Misses p (cond b (c ∷ up_to_last_slash cs) [])
up_to_misses_step p c cs true e h = or_from (p c) (list_any p (up_to_last_slash cs)) e h
up_to_misses_step p c cs false e h = refl

up_to_misses : (p : ℕ → Bool) (t : Text) → Misses p t → Misses p (up_to_last_slash t)
up_to_misses p [] h = refl
up_to_misses p (c ∷ cs) h =
    let parts = or_parts (p c) (list_any p cs) h in
    up_to_misses_step p c cs (list_any (λ d. d == 47) (c ∷ cs)) parts.0 (up_to_misses p cs parts.1)

merge_misses_step : (p : ℕ → Bool) (b : Bool) (base path : Text) → p 47 ≡ false → Misses p base → Misses p path → Misses p (cond b (47 ∷ path) (up_to_last_slash base ++ path))
merge_misses_step p true base path slash h k = or_from (p 47) (list_any p path) slash k
merge_misses_step p false base path slash h k = joined_misses p (up_to_last_slash base) path (up_to_misses p base h) k

merge_free : (base : Parts) (path : Text) → is_free_of (codes "?#") base.path ≡ true → is_free_of (codes "?#") path ≡ true → is_free_of (codes "?#") (merge base path) ≡ true
merge_free base path h k =
    free_from (codes "?#") (merge base path)
    (merge_misses_step (one_of (codes "?#")) (is_some base.authority && is_empty base.path) base.path path refl (misses_from (codes "?#") base.path h) (misses_from (codes "?#") path k))

merge_rooted_step : (a : Bool) (base path : Text) → a ≡ true → is_rooted base ≡ true → is_rooted (cond (a && is_empty base) (47 ∷ path) (up_to_last_slash base ++ path)) ≡ true
merge_rooted_step false base path e h = cc
merge_rooted_step true [] path e h = refl
merge_rooted_step true (c ∷ cs) path e h =
    let slash : 47 ≡ c = eqb-true 47 c h in
    rw (sym slash) refl

merge_rooted : (base : Parts) (path : Text) → is_some base.authority ≡ true → is_rooted base.path ≡ true → is_rooted (merge base path) ≡ true
merge_rooted base path a h = merge_rooted_step (is_some base.authority) base.path path a h

-- ---- what parts resolve to
either : (b : Bool) (x y : Parts) → (b ≡ true → AreSound x) → AreSound y → AreSound (cond b x y)
either true x y h k = h refl
either false x y h k = k

chosen : (f : Text → Bool) (b : Bool) (o p : Option Text) → option_all f o ≡ true → option_all f p ≡ true → option_all f (cond b o p) ≡ true
chosen f true o p h k = h
chosen f false o p h k = k

undotted_path : (path : Text) → (same_text path [] || begins path (codes "/")) ≡ true → (same_text (remove_dot_segments path) [] || begins (remove_dot_segments path) (codes "/")) ≡ true
undotted_path path h = rooted_text (remove_dot_segments path) (undotted_rooted path (rooted_from path h))

led_path : (t : Text) → begins t (codes "/") ≡ true → (same_text t [] || begins t (codes "/")) ≡ true
led_path t h = or_right (same_text t []) (begins t (codes "/")) h

merge_path : (base : Parts) (path : Text) → is_some base.authority ≡ true → (same_text base.path [] || begins base.path (codes "/")) ≡ true
    → (same_text (merge base path) [] || begins (merge base path) (codes "/")) ≡ true
merge_path base path a h = rooted_text (merge base path) (merge_rooted base path a (rooted_from base.path h))

pub resolve_sound : (base r : Parts) → AreSound base → AreSound r → AreSound (resolve base r)
resolve_sound base r hb hr =
    let path = undotted_free r.path hr.path in
    either (is_some r.scheme) _ _
    (λ _. record { scheme = hr.scheme; authority = hr.authority; path = path; rooted = λ a. undotted_path r.path (hr.rooted a); query = hr.query })
    (either (is_some r.authority) _ _
    (λ _. record { scheme = hb.scheme; authority = hr.authority; path = path; rooted = λ a. undotted_path r.path (hr.rooted a); query = hr.query })
    (either (is_empty r.path) _ _
    (λ _. record { scheme = hb.scheme; authority = hb.authority; path = hb.path; rooted = hb.rooted; query = chosen (is_free_of (codes "#")) (is_some r.query) r.query base.query hr.query hb.query })
    (either (begins r.path (codes "/")) _ _
    (λ e. record { scheme = hb.scheme; authority = hb.authority; path = path; rooted = λ _. undotted_path r.path (led_path r.path e); query = hr.query })
    (record {
      scheme = hb.scheme;
      authority = hb.authority;
      path = undotted_free (merge base r.path) (merge_free base r.path hb.path hr.path);
      rooted = λ a. undotted_path (merge base r.path) (merge_path base r.path a (hb.rooted a));
      query = hr.query;
    }))))

-- ---- the parts that the code puts together
pub own_path : (r : Parts) (path : Text) → AreSound r → path ≡ remove_dot_segments r.path → AreSound (record r { path = path })
own_path r path h is =
    subst (λ p. AreSound (record r { path = p })) (sym is)
    (record { scheme = h.scheme; authority = h.authority; path = undotted_free r.path h.path; rooted = λ a. undotted_path r.path (h.rooted a); query = h.query })

pub own_authority : (base r : Parts) (path : Text) → AreSound base → AreSound r → path ≡ remove_dot_segments r.path → AreSound (record r { scheme = base.scheme; path = path })
own_authority base r path hb h is =
    let own = own_path r path h is in
    record { scheme = hb.scheme; authority = own.authority; path = own.path; rooted = own.rooted; query = own.query }

rooted_step_of : (base : Parts) (t path : Text) (b : Bool) → AreSound base → is_free_of (codes "?#") t ≡ true → begins t (codes "/") ≡ b
    → path ≡ cond b (remove_dot_segments t) (remove_dot_segments (merge base t))
    → (is_free_of (codes "?#") path ≡ true) × (is_some base.authority ≡ true → (same_text path [] || begins path (codes "/")) ≡ true)
rooted_step_of base t path true h free e is =
    (rw is (undotted_free t free), λ a. rw is (undotted_path t (led_path t e)))
rooted_step_of base t path false h free e is =
    (rw is (undotted_free (merge base t) (merge_free base t h.path free)), λ a. rw is (undotted_path (merge base t) (merge_path base t a (h.rooted a))))

pub under_base : (base b r : Parts) (path : Text) → AreSound base → AreSound r → base ≡ b
    → path ≡ cond (begins r.path (codes "/")) (remove_dot_segments r.path) (remove_dot_segments (merge b r.path))
    → AreSound (record base { path = path; query = r.query; fragment = r.fragment })
under_base base b r path hb h same is =
    let here = is ∙ ap (λ x. cond {A = Text} (begins r.path (codes "/")) (remove_dot_segments r.path) (remove_dot_segments (merge x r.path))) (sym same) in
    let whole = rooted_step_of base r.path path (begins r.path (codes "/")) hb h.path refl here in
    record { scheme = hb.scheme; authority = hb.authority; path = whole.0; rooted = whole.1; query = h.query }
