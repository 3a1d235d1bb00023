-- The text of a reference's parts, and what stands before its fragment (RFC 3986, section 5.3).
use Rattle.std.proofs.Common.{◌≡◌, ◌==◌, ◌++◌, ◌∷◌, Option, Some, None, codes, refl, sym, ap, ◌∙◌, append-nil}
use Rattle.definitions.specs.Values.{Text}
use Rattle.definitions.specs.Fragments.{fragment_kind}
use Rattle.definitions.specs.Targets.{fragment_of}
use Rattle.definitions.specs.Uris.{Parts, split, recompose, is_free_of, is_scheme, led_by, ended_by, without_fragment}
use Rattle.definitions.specs.Lists.{cut_at}
use Rattle.definitions.specs.Resolution.{resolve, target_uri}
use Rattle.uri_ref.specs.Soundness.{AreSound}
use Rattle.uri_ref.proofs.Missing.{Misses, misses_from, joined_misses, one_missed, scheme_misses, cut_apart, of_option, led_misses, ended_misses}
use Rattle.uri_ref.proofs.Recomposed.{joined, recomposes}
use Rattle.uri_ref.proofs.Sound.{split_sound, resolve_sound}

-- no `#` stands before the fragment
before_misses : (p : Parts) → AreSound p
    → Misses (λ c. c == 35) ((ended_by p.scheme (codes ":") ++ (led_by (codes "//") p.authority ++ p.path)) ++ led_by (codes "?") p.query)
before_misses p h =
    joined_misses (λ c. c == 35) (ended_by p.scheme (codes ":") ++ (led_by (codes "//") p.authority ++ p.path)) (led_by (codes "?") p.query)
    (joined_misses (λ c. c == 35) (ended_by p.scheme (codes ":")) (led_by (codes "//") p.authority ++ p.path)
    (ended_misses (λ c. c == 35) (codes ":") p.scheme refl (λ t e. scheme_misses 35 t refl refl (of_option is_scheme p.scheme h.scheme t e)))
    (joined_misses (λ c. c == 35) (led_by (codes "//") p.authority) p.path
    (led_misses (λ c. c == 35) (codes "//") p.authority refl
    (λ t e. one_missed (codes "/?#") 35 t refl (misses_from (codes "/?#") t (of_option (is_free_of (codes "/?#")) p.authority h.authority t e))))
    (one_missed (codes "?#") 35 p.path refl (misses_from (codes "?#") p.path h.path))))
    (led_misses (λ c. c == 35) (codes "?") p.query refl
    (λ t e. one_missed (codes "#") 35 t refl (misses_from (codes "#") t (of_option (is_free_of (codes "#")) p.query h.query t e))))

cut_text : (p : Parts) → AreSound p → cut_at (λ c. c == 35) (recompose p) ≡ (recompose (record p { fragment = None }), p.fragment)
cut_text p h =
    let u : Text = (ended_by p.scheme (codes ":") ++ (led_by (codes "//") p.authority ++ p.path)) ++ led_by (codes "?") p.query in
    let whole : recompose p ≡ u ++ led_by (codes "#") p.fragment =
    joined (ended_by p.scheme (codes ":")) (led_by (codes "//") p.authority) p.path (led_by (codes "?") p.query) (led_by (codes "#") p.fragment) in
    let before : recompose (record p { fragment = None }) ≡ u =
    joined (ended_by p.scheme (codes ":")) (led_by (codes "//") p.authority) p.path (led_by (codes "?") p.query) (codes "") ∙ append-nil u in
    ap (cut_at (λ c. c == 35)) whole ∙ cut_apart 35 u p.fragment (before_misses p h) ∙ ap (λ (t : Text). (t, p.fragment)) (sym before)

sound : (base reference : Text) → AreSound (resolve (split base) (split reference))
sound base reference = resolve_sound (split base) (split reference) (split_sound base) (split_sound reference)

resolved_before : (base reference : Text) → without_fragment (target_uri base reference) ≡ recompose (record (resolve (split base) (split reference)) { fragment = None })
resolved_before base reference = ap (λ (r : Text × Option Text). r.0) (cut_text (resolve (split base) (split reference)) (sound base reference))

resolved_fragment : (base reference : Text) → (split (target_uri base reference)).fragment ≡ (resolve (split base) (split reference)).fragment
resolved_fragment base reference = ap (λ (r : Text × Option Text). r.1) (cut_text (resolve (split base) (split reference)) (sound base reference))

-- of parts that these are, the fragment is read as that of the text
pub fragment_read : (base reference : Text) (p : Parts) (o : Option Text) → p ≡ resolve (split base) (split reference) → o ≡ p.fragment
    → fragment_kind o ≡ fragment_of (target_uri base reference)
fragment_read base reference p o e f = ap fragment_kind (f ∙ ap (λ (q : Parts). q.fragment) e ∙ sym (resolved_fragment base reference))

-- and without it they make the text before it
pub text_before : (base reference : Text) (p q : Parts) → p ≡ resolve (split base) (split reference) → q ≡ record p { fragment = None }
    → recompose q ≡ without_fragment (target_uri base reference)
text_before base reference p q e f = ap recompose (f ∙ ap (λ (r : Parts). record r { fragment = None }) e) ∙ sym (resolved_before base reference)

-- what stands before the fragment of a reference that is a fragment alone is the base's
pub base_before : (base fragment : Text) → without_fragment base ≡ without_fragment (target_uri base (35 ∷ fragment))
base_before base fragment =
    ap (λ (r : Text × Option Text). r.0) (ap (cut_at (λ c. c == 35)) (sym (recomposes base)) ∙ cut_text (split base) (split_sound base))
    ∙ sym (resolved_before base (35 ∷ fragment))

pub own_fragment : (base fragment : Text) → fragment_kind (Some fragment) ≡ fragment_of (target_uri base (35 ∷ fragment))
own_fragment base fragment = ap fragment_kind (sym (resolved_fragment base (35 ∷ fragment)))
