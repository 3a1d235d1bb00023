-- The parts of a text are the only ones that recompose to it.
use Rattle.std.proofs.Common.{◌≡◌, ◌==◌, [], ◌∷◌, ◌++◌, Bool, true, false, not, ◌||◌, ◌&&◌, cond, Option, Some, None, is_some, is_none, unwrap_or, drop, codes, refl, sym, ap, ◌∙◌, append_assoc}
use Rattle.std.proofs.lemmas.Bool.{and_from, and_parts, not-true}
use Rattle.std.specs.List.{list_any, slice_split}
use Rattle.definitions.specs.Values.{Text, same_text}
use Rattle.definitions.specs.Uris.{Parts, SplitsOnce, split, recompose, begins, is_free_of, is_dot_segment, is_identifier, is_path_of, is_scheme, are_parts, led_by, ended_by, option_all, scheme_and_rest, authority_and_path}
use Rattle.definitions.specs.Lists.{cut_at, split_before}
use Rattle.uri_ref.specs.Soundness.{AreSound}
use Rattle.uri_ref.specs.Views.{made_parts}
use Rattle.uri_ref.proofs.Missing.{Misses, misses_from, joined_misses, one_missed, scheme_misses, is_rooted, rest_is_rooted, rooted_from, rooted_text, cut_apart, before_apart, of_option, led_misses, ended_misses}
use Rattle.uri_ref.proofs.Recomposed.{joined, recomposes}
use Rattle.uri_ref.proofs.Sound.{split_sound}
use Rattle.uri_ref.proofs.Splits.{split_from}

-- ---- where a text is cut that was put together
taken : (a rest : Text) (s : Text) (b : Bool) → is_none (cond {A = Option Text × Text} b (Some a, rest) (None, s)).0 ≡ true → cond {A = Option Text × Text} b (Some a, rest) (None, s) ≡ (None, s)
taken a rest s true h = cc
taken a rest s false h = refl

no_scheme : (s : Text) → is_none (scheme_and_rest s).0 ≡ true → scheme_and_rest s ≡ (None, s)
no_scheme s h =
    let r = cut_at (λ c. c == 58) s in
    taken r.0 (unwrap_or r.1 []) s (is_some r.1 && is_scheme r.0) h

never : (b : Bool) (x y : Option Text × Text) → cond (b && false) x y ≡ y
never true x y = refl
never false x y = refl

scheme_by : (s : Text) (r : Text × Option Text) → cut_at (λ c. c == 58) s ≡ r → scheme_and_rest s ≡ cond {A = Option Text × Text} (is_some r.1 && is_scheme r.0) (Some (r.0), unwrap_or r.1 []) (None, s)
scheme_by s r e = ap (λ (r : Text × Option Text). cond {A = Option Text × Text} (is_some r.1 && is_scheme r.0) (Some (r.0), unwrap_or r.1 []) (None, s)) e

led_twice : (t : Text) → scheme_and_rest (47 ∷ t) ≡ (None, 47 ∷ t)
led_twice t =
    let r = cut_at (λ c. c == 58) t in
    never (is_some r.1) (Some (47 ∷ r.0), unwrap_or r.1 []) (None, 47 ∷ t)

scheme_cut : (s a : Option Text) (path : Text) → option_all is_scheme s ≡ true → (is_none a ≡ true → (is_some s || is_none (scheme_and_rest path).0) ≡ true)
    → scheme_and_rest (ended_by s (codes ":") ++ (led_by (codes "//") a ++ path)) ≡ (s, led_by (codes "//") a ++ path)
scheme_cut None None path h k = no_scheme path (k refl)
scheme_cut None (Some t) path h k = led_twice (47 ∷ (t ++ path))
scheme_cut (Some t) a path h k =
    let w = led_by (codes "//") a ++ path in
    ap scheme_and_rest (append_assoc t (codes ":") w)
    ∙ scheme_by (t ++ 58 ∷ w) (t, Some w) (cut_apart 58 t (Some w) (scheme_misses 58 t refl refl h))
    ∙ ap (λ b. cond {A = Option Text × Text} b (Some t, w) (None, t ++ 58 ∷ w)) h

authority_cut : (a : Option Text) (path : Text) → option_all (is_free_of (codes "/?#")) a ≡ true → (is_some a ≡ true → is_rooted path ≡ true) → (is_none a ≡ true → begins path (codes "//") ≡ false)
    → authority_and_path (led_by (codes "//") a ++ path) ≡ (a, path)
authority_cut None path h r k = ap (λ b. cond {A = Option Text × Text} b (Some (split_before (λ c. c == 47) (drop 2 path)).0, (split_before (λ c. c == 47) (drop 2 path)).1) (None, path)) (k refl)
authority_cut (Some t) path h r k =
    ap (λ (x : Text × Text). (Some (x.0), x.1)) (before_apart t path (one_missed (codes "/?#") 47 t refl (misses_from (codes "/?#") t h)) (r refl))

split_of : (s a : Option Text) (path : Text) (q f : Option Text) → option_all is_scheme s ≡ true → option_all (is_free_of (codes "/?#")) a ≡ true → is_free_of (codes "?#") path ≡ true
    → option_all (is_free_of (codes "#")) q ≡ true → (is_some a ≡ true → is_rooted path ≡ true) → (is_none a ≡ true → begins path (codes "//") ≡ false)
    → (is_none a ≡ true → (is_some s || is_none (scheme_and_rest path).0) ≡ true)
    → split (recompose (made_parts s a path q f)) ≡ made_parts s a path q f
split_of s a path q f hs ha hp hq rooted unled unschemed =
    let w = led_by (codes "//") a ++ path in
    let v = ended_by s (codes ":") ++ w in
    let u = v ++ led_by (codes "?") q in
    let path_free = misses_from (codes "?#") path hp in
    let v_f : Misses (λ c. c == 35) v =
    joined_misses (λ c. c == 35) (ended_by s (codes ":")) w
    (ended_misses (λ c. c == 35) (codes ":") s refl (λ t e. scheme_misses 35 t refl refl (of_option is_scheme s hs t e)))
    (joined_misses (λ c. c == 35) (led_by (codes "//") a) path
    (led_misses (λ c. c == 35) (codes "//") a refl (λ t e. one_missed (codes "/?#") 35 t refl (misses_from (codes "/?#") t (of_option (is_free_of (codes "/?#")) a ha t e))))
    (one_missed (codes "?#") 35 path refl path_free))
    in
    let v_q : Misses (λ c. c == 63) v =
    joined_misses (λ c. c == 63) (ended_by s (codes ":")) w
    (ended_misses (λ c. c == 63) (codes ":") s refl (λ t e. scheme_misses 63 t refl refl (of_option is_scheme s hs t e)))
    (joined_misses (λ c. c == 63) (led_by (codes "//") a) path
    (led_misses (λ c. c == 63) (codes "//") a refl (λ t e. one_missed (codes "/?#") 63 t refl (misses_from (codes "/?#") t (of_option (is_free_of (codes "/?#")) a ha t e))))
    (one_missed (codes "?#") 63 path refl path_free))
    in
    let u_f : Misses (λ c. c == 35) u =
    joined_misses (λ c. c == 35) v (led_by (codes "?") q) v_f
    (led_misses (λ c. c == 35) (codes "?") q refl (λ t e. one_missed (codes "#") 35 t refl (misses_from (codes "#") t (of_option (is_free_of (codes "#")) q hq t e))))
    in
    let at_f = cut_apart 35 u f u_f in
    let at_q = cut_apart 63 v q v_q in
    let at_s = scheme_cut s a path hs unschemed in
    let at_a = authority_cut a path ha rooted unled in
    ap split (joined (ended_by s (codes ":")) (led_by (codes "//") a) path (led_by (codes "?") q) (led_by (codes "#") f))
    ∙ sym (split_from (u ++ led_by (codes "#") f) u v w s a path q f
    (sym (ap (λ (r : Text × Option Text). r.0) at_f)) (sym (ap (λ (r : Text × Option Text). r.1) at_f))
    (sym (ap (λ (r : Text × Option Text). r.0) at_q)) (sym (ap (λ (r : Text × Option Text). r.1) at_q))
    (sym (ap (λ (r : Option Text × Text). r.0) at_s)) (sym (ap (λ (r : Option Text × Text). r.1) at_s))
    (sym (ap (λ (r : Option Text × Text). r.0) at_a)) (sym (ap (λ (r : Option Text × Text). r.1) at_a)))

-- ---- parts that some text splits into
path_some : (a x y : Bool) → cond a x y ≡ true → a ≡ true → x ≡ true
path_some true x y h e = h
path_some false x y h e = cc

path_none : (o : Option Text) (x y : Bool) → cond (is_some o) x y ≡ true → is_none o ≡ true → y ≡ true
path_none None x y h e = h
path_none (Some t) x y h e = cc

only : (p : Parts) → are_parts p ≡ true → split (recompose p) ≡ p
only p h =
    let s = option_all is_scheme p.scheme in
    let a = option_all (is_free_of (codes "/?#")) p.authority in
    let free = is_free_of (codes "?#") p.path in
    let q = option_all (is_free_of (codes "#")) p.query in
    let all = and_parts (s && a && (free && is_path_of p)) q h in
    let front = and_parts (s && a) (free && is_path_of p) all.0 in
    let names = and_parts s a front.0 in
    let path = and_parts free (is_path_of p) front.1 in
    let root = same_text p.path [] || begins p.path (codes "/") in
    let led = not (begins p.path (codes "//")) in
    let named = is_some p.scheme || is_none (scheme_and_rest p.path).0 in
    let none = λ (e : is_none p.authority ≡ true). and_parts led named (path_none p.authority root (led && named) path.1 e) in
    split_of p.scheme p.authority p.path p.query p.fragment names.0 names.1 path.0 all.1
    (λ e. rooted_from p.path (path_some (is_some p.authority) root (led && named) path.1 e))
    (λ e. not-true (begins p.path (codes "//")) (none e).0)
    (λ e. (none e).1)

-- ---- the parts of a text are such
schemed_step : (q a rest : Text) (b : Bool) → (is_none (scheme_and_rest q).0 ≡ not b)
    → (is_some (cond {A = Option Text × Text} b (Some a, rest) (None, q)).0 || is_none (scheme_and_rest (cond {A = Option Text × Text} b (Some a, rest) (None, q)).1).0) ≡ true
schemed_step q a rest true e = refl
schemed_step q a rest false e = e

unless : (q a rest : Text) (b : Bool) → is_none (cond {A = Option Text × Text} b (Some a, rest) (None, q)).0 ≡ not b
unless q a rest true = refl
unless q a rest false = refl

schemed : (q : Text) → (is_some (scheme_and_rest q).0 || is_none (scheme_and_rest (scheme_and_rest q).1).0) ≡ true
schemed q =
    let r = cut_at (λ c. c == 58) q in
    let b = is_some r.1 && is_scheme r.0 in
    schemed_step q r.0 (unwrap_or r.1 []) b (unless q r.0 (unwrap_or r.1 []) b)

path_step : (n : Bool) (u : Text) (b : Bool) → begins u (codes "//") ≡ b → (n || is_none (scheme_and_rest u).0) ≡ true
    → let a = cond {A = Option Text × Text} b (Some (split_before (λ c. c == 47) (drop 2 u)).0, (split_before (λ c. c == 47) (drop 2 u)).1) (None, u) in
    cond (is_some a.0) (same_text a.1 [] || begins a.1 (codes "/")) (not (begins a.1 (codes "//")) && (n || is_none (scheme_and_rest a.1).0)) ≡ true
path_step n u true e h = rooted_text (split_before (λ c. c == 47) (drop 2 u)).1 (rest_is_rooted (drop 2 u))
path_step n u false e h = and_from (not (begins u (codes "//"))) (n || is_none (scheme_and_rest u).0) (ap not e) h

gathered : (s a free path q : Bool) → s ≡ true → a ≡ true → free ≡ true → path ≡ true → q ≡ true → (s && a && (free && path) && q) ≡ true
gathered s a free path q hs ha hf hp hq = rw (hs, ha, hf, hp, hq) refl

splits : (t : Text) → are_parts (split t) ≡ true
splits t =
    let sound = split_sound t in
    let p = split t in
    let q = cut_at (λ c. c == 63) (cut_at (λ c. c == 35) t).0 in
    let s = scheme_and_rest q.0 in
    gathered (option_all is_scheme p.scheme) (option_all (is_free_of (codes "/?#")) p.authority) (is_free_of (codes "?#") p.path) (is_path_of p) (option_all (is_free_of (codes "#")) p.query)
    sound.scheme sound.authority sound.path (path_step (is_some s.0) s.1 (begins s.1 (codes "//")) refl (schemed q.0)) sound.query

pub once : SplitsOnce
once = record { recomposes = recomposes; splits = splits; only = only }

-- ---- identifiers
path_of : (a n s x u : Bool) → (a ≡ true → u ≡ true) → (a || n) ≡ true → s ≡ true → cond a u (n && (s || x)) ≡ true
path_of true n s x u h k e = h refl
path_of false n s x u h k e = rw (k, e) refl

pub identified : (p : Parts) → AreSound p → is_identifier p ≡ true → split (recompose p) ≡ p
identified p sound h =
    let dots = list_any is_dot_segment (slice_split (λ c. c == 47) p.path) in
    let whole = and_parts (is_some p.scheme && is_none p.fragment && not dots) (is_some p.authority || not (begins p.path (codes "//"))) h in
    let undotted = and_parts (is_some p.scheme && is_none p.fragment) (not dots) whole.0 in
    let scheme = (and_parts (is_some p.scheme) (is_none p.fragment) undotted.0).0 in
    only p
    (gathered (option_all is_scheme p.scheme) (option_all (is_free_of (codes "/?#")) p.authority) (is_free_of (codes "?#") p.path) (is_path_of p) (option_all (is_free_of (codes "#")) p.query)
    sound.scheme sound.authority sound.path
    (path_of (is_some p.authority) (not (begins p.path (codes "//"))) (is_some p.scheme) (is_none (scheme_and_rest p.path).0) (same_text p.path [] || begins p.path (codes "/"))
    sound.rooted whole.1 scheme)
    sound.query)
