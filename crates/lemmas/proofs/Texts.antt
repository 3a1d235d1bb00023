-- What `same_text` tells, and the order of borrowed texts.
use Rattle.std.proofs.Common.{◌≡◌, ◌==◌, ℕ, Bool, Bor, Ordering, nat_cmp, length, true, false, refl, sym, ap, ◌∙◌}
use Rattle.std.proofs.lemmas.Bool.{false_from_ne_true}
use Rattle.std.proofs.lemmas.Bool.Decides.{same_from_decides, Decides-eqb, Decides-like}
use Rattle.std.proofs.lemmas.Map.Text.{is_eq-slice_cmp}
use Rattle.std.proofs.lemmas.Slice.Eq.{bytes_eq-Decides}
use Rattle.std.specs.Cmp.Lexicographic.{slice_cmp}
use Rattle.std.specs.Ordering.{eq_by_cmp}
use Rattle.definitions.specs.Values.{Text, same_text}

pub same_text_itself : (t : Text) → same_text t t ≡ true
same_text_itself t = (bytes_eq-Decides t t).1 refl

pub same_text_is : (t u : Text) → same_text t u ≡ true → t ≡ u
same_text_is t u = (bytes_eq-Decides t u).0

pub same_text_turned : (t u : Text) → same_text t u ≡ same_text u t
same_text_turned t u = same_from_decides (same_text t u) (same_text u t) (bytes_eq-Decides t u) (Decides-like (same_text u t) sym sym (bytes_eq-Decides u t))

pub same_text_differs : (t u : Text) → (t ≡ u → ⊥) → same_text t u ≡ false
same_text_differs t u apart = false_from_ne_true (same_text t u) (λ e. apart (same_text_is t u e))

-- ---- by their lengths
-- what is asked of two texts of one length, and of others
abbrev pub DifferIf : Bool → Text → Text → Type 0
DifferIf true s t = s ≡ t → ⊥
DifferIf false s t = Unit {0}

pub differs_by : (b : Bool) (n : ℕ) (s t : Text) → (length t == n) ≡ b → length s ≡ n → DifferIf b s t → same_text s t ≡ false
differs_by true n s t k e h = same_text_differs s t h
differs_by false n s t k e h = same_text_differs s t (λ same. let long : (length t == n) ≡ true = (Decides-eqb (length t) n).1 (ap length (sym same) ∙ e) in absurd (cc))

-- ---- by the order of their bytes
abbrev pub text_order : Bor Text → Bor Text → Ordering
text_order x y = slice_cmp nat_cmp x.now y.now

pub text_order-same : (x y : Bor Text) → eq_by_cmp text_order x y ≡ same_text x.now y.now
text_order-same x y = is_eq-slice_cmp x.now y.now
