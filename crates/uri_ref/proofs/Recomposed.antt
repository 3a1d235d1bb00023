-- The parts of a text recompose to it.
use Rattle.std.proofs.Common.{◌≡◌, ℕ, ◌==◌, [], ◌∷◌, ◌++◌, Bool, true, false, ◌&&◌, cond, Option, Some, None, is_some, unwrap_or, drop, codes, refl, sym, ap, ◌∙◌, append_assoc}
use Rattle.std.proofs.lemmas.Bool.{eqb-true}
use Rattle.definitions.specs.Values.{Text}
use Rattle.definitions.specs.Uris.{split, recompose, led_by, ended_by, begins, is_scheme, scheme_and_rest, authority_and_path}
use Rattle.definitions.specs.Lists.{cut_at, split_before}
use Rattle.uri_ref.proofs.Rules.{front}

cut_step : (c x : ℕ) (xs : Text) (b : Bool) (r : Text × Option Text) → (x == c) ≡ b → r.0 ++ led_by (c ∷ []) r.1 ≡ xs
    → (cond {A = Text × Option Text} b ([], Some xs) (x ∷ r.0, r.1)).0 ++ led_by (c ∷ []) (cond {A = Text × Option Text} b ([], Some xs) (x ∷ r.0, r.1)).1 ≡ x ∷ xs
cut_step c x xs true r e h = ap (λ y. y ∷ xs) (sym (eqb-true x c e))
cut_step c x xs false r e h = ap (λ s. x ∷ s) h

pub cut_joined : (c : ℕ) (s : Text) → (cut_at (λ d. d == c) s).0 ++ led_by (c ∷ []) (cut_at (λ d. d == c) s).1 ≡ s
cut_joined c [] = refl
cut_joined c (x ∷ xs) = cut_step c x xs (x == c) (cut_at (λ d. d == c) xs) refl (cut_joined c xs)

before_step : (x : ℕ) (xs : Text) (b : Bool) (r : Text × Text) → r.0 ++ r.1 ≡ xs
    → (cond {A = Text × Text} b ([], x ∷ xs) (x ∷ r.0, r.1)).0 ++ (cond {A = Text × Text} b ([], x ∷ xs) (x ∷ r.0, r.1)).1 ≡ x ∷ xs
before_step x xs true r h = refl
before_step x xs false r h = ap (λ s. x ∷ s) h

pub before_joined : (p : ℕ → Bool) (s : Text) → (split_before p s).0 ++ (split_before p s).1 ≡ s
before_joined p [] = refl
before_joined p (x ∷ xs) = before_step x xs (p x) (split_before p xs) (before_joined p xs)

scheme_step : (s a : Text) (o : Option Text) (b : Bool) → a ++ led_by (codes ":") o ≡ s
    → (let r = cond {A = Option Text × Text} (is_some o && b) (Some a, unwrap_or o []) (None, s) in ended_by r.0 (codes ":") ++ r.1 ≡ s)
scheme_step s a None b h = refl
scheme_step s a (Some t) false h = refl
scheme_step s a (Some t) true h = append_assoc a (codes ":") t ∙ h

pub scheme_joined : (s : Text) → ended_by (scheme_and_rest s).0 (codes ":") ++ (scheme_and_rest s).1 ≡ s
scheme_joined s = scheme_step s (cut_at (λ c. c == 58) s).0 (cut_at (λ c. c == 58) s).1 (is_scheme (cut_at (λ c. c == 58) s).0) (cut_joined 58 s)

authority_step : (s : Text) (b : Bool) → begins s (codes "//") ≡ b
    → (let r = cond {A = Option Text × Text} b (Some (split_before (λ c. c == 47) (drop 2 s)).0, (split_before (λ c. c == 47) (drop 2 s)).1) (None, s) in led_by (codes "//") r.0 ++ r.1 ≡ s)
authority_step s false e = refl
authority_step s true e =
    append_assoc (codes "//") (split_before (λ c. c == 47) (drop 2 s)).0 (split_before (λ c. c == 47) (drop 2 s)).1
    ∙ ap (λ r. codes "//" ++ r) (before_joined (λ c. c == 47) (drop 2 s)) ∙ sym (front (codes "//") s e)

pub authority_joined : (s : Text) → led_by (codes "//") (authority_and_path s).0 ++ (authority_and_path s).1 ≡ s
authority_joined s = authority_step s (begins s (codes "//")) refl

pub joined : (e l p q f : Text) → e ++ (l ++ (p ++ (q ++ f))) ≡ ((e ++ (l ++ p)) ++ q) ++ f
joined e l p q f = rw (append_assoc (e ++ (l ++ p)) q f, append_assoc e (l ++ p) (q ++ f), append_assoc l p (q ++ f)) refl

pub recomposes : (t : Text) → recompose (split t) ≡ t
recomposes t =
    let f = cut_at (λ c. c == 35) t in
    let q = cut_at (λ c. c == 63) f.0 in
    let s = scheme_and_rest q.0 in
    let a = authority_and_path s.1 in
    joined (ended_by s.0 (codes ":")) (led_by (codes "//") a.0) a.1 (led_by (codes "?") q.1) (led_by (codes "#") f.1)
    ∙ ap (λ r. ((ended_by s.0 (codes ":") ++ r) ++ led_by (codes "?") q.1) ++ led_by (codes "#") f.1) (authority_joined s.1)
    ∙ ap (λ r. (r ++ led_by (codes "?") q.1) ++ led_by (codes "#") f.1) (scheme_joined q.0)
    ∙ ap (λ r. r ++ led_by (codes "#") f.1) (cut_joined 63 f.0)
    ∙ cut_joined 35 t
