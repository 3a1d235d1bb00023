-- Percent escapes: the test of them byte by byte, and what they are read as where each is whole.
use Rattle.std.proofs.Common.{◌≡◌, ℕ, ◌*◌, ◌+◌, ◌≤◌, ◌≢◌, ◌==◌, [], ◌∷◌, length, get_or, drop, ◌||◌, ◌&&◌, Bool, true, false, cond, Option, Some, None, is_some, Err, option_map, option_and_then, refl, sym, ap, ◌∙◌, arith}
use Rattle.std.proofs.lemmas.Bool.{ne_eqb}
use Rattle.std.proofs.lemmas.Bool.Decides.{nat_tests}
use Rattle.std.specs.Char.{digit_value, is_digit, is_ascii_hexdigit}
use Rattle.std.specs.Str.{IsUtf8, is_utf8}
use Rattle.std.proofs.lemmas.Str.{IsUtf8-from_is_utf8}
use Rattle.percent_encoding.specs.Percent.{percent_decode}
use Rattle.definitions.specs.Values.{Text}
use Rattle.definitions.specs.Faults.{bad_fragment}
use Rattle.definitions.specs.Fragments.{hex_value, percent_decoded_text, kind_of_decoded_text, kind_of_text}
use Rattle.uri_ref.specs.Escapes.{after_digits}

-- what is there stays there
pub mapped : {A B : Type 0} (f : A → B) (o : Option A) → is_some o ≡ is_some (option_map f o)
mapped f None = refl
mapped f (Some x) = refl

-- ---- a byte that begins no escape
other_two : (c d : ℕ) (b : Bool) → is_some (cond b None (Some (d ∷ []))) ≡ is_some (cond b None (Some (c ∷ d ∷ [])))
other_two c d true = refl
other_two c d false = refl

pub other_stays : (c : ℕ) (cs : Text) → (c == 37) ≡ false → is_some (percent_decoded_text cs) ≡ is_some (percent_decoded_text (c ∷ cs))
other_stays c [] e = rw e refl
other_stays c (d ∷ []) e = rw e (other_two c d (d == 37))
other_stays c (d ∷ x ∷ cs) e = rw e (mapped (λ r. c ∷ r) (percent_decoded_text (d ∷ x ∷ cs)))

-- ---- a byte that begins one
abbrev escaped : Option ℕ → Option ℕ → Text → Option Text
escaped h l cs = option_and_then (λ h. option_and_then (λ l. option_map (λ r. (16 * h + l) ∷ r) (percent_decoded_text cs)) l) h

digits_some : (h l : Option ℕ) (cs next : Text) → cond (is_some h && is_some l) (Some cs) None ≡ Some next → is_some (percent_decoded_text next) ≡ is_some (escaped h l cs)
digits_some None l cs next e = cc
digits_some (Some h) None cs next e = cc
digits_some (Some h) (Some l) cs next e =
    let same : cs ≡ next = cc in
    ap (λ t. is_some (percent_decoded_text t)) (sym same) ∙ mapped (λ r. (16 * h + l) ∷ r) (percent_decoded_text cs)

digits_none : (h l : Option ℕ) (cs : Text) → cond {A = Option Text} (is_some h && is_some l) (Some cs) None ≡ None → is_some (escaped h l cs) ≡ false
digits_none None l cs e = refl
digits_none (Some h) None cs e = refl
digits_none (Some h) (Some l) cs e = cc

pub escape_some : (after next : Text) → after_digits after ≡ Some next → is_some (percent_decoded_text next) ≡ is_some (percent_decoded_text (37 ∷ after))
escape_some [] next e = cc
escape_some (h ∷ []) next e = cc
escape_some (h ∷ l ∷ cs) next e = digits_some (hex_value h) (hex_value l) cs next e

pub escape_none : (after : Text) → after_digits after ≡ None → is_some (percent_decoded_text (37 ∷ after)) ≡ false
escape_none [] e = refl
escape_none (h ∷ []) e = refl
escape_none (h ∷ l ∷ cs) e = digits_none (hex_value h) (hex_value l) cs e

-- ---- digits
pub hex_digits : (c : ℕ) → is_ascii_hexdigit c ≡ is_some (hex_value c)
hex_digits c = grind (arith, nat_tests)

hex_agrees : (c h : ℕ) → hex_value c ≡ Some h → (is_digit c 16 ≡ true) × (digit_value c ≡ h)
hex_agrees c h e = grind (arith, nat_tests)

-- ---- where each escape is whole, the bytes are read as the definitions have it
kept_two : (c d : ℕ) (r : Text) (b : Bool) → cond b None (Some (c ∷ d ∷ [])) ≡ Some r → c ∷ d ∷ [] ≡ r
kept_two c d r true e = cc
kept_two c d r false e = cc

from_map : (c : ℕ) (o : Option Text) (t r : Text) → ((s : Text) → o ≡ Some s → t ≡ s) → option_map (λ s. c ∷ s) o ≡ Some r → c ∷ t ≡ r
from_map c None t r h e = cc
from_map c (Some s) t r h e = let same : c ∷ s ≡ r = cc in ap (λ x. c ∷ x) (h s refl) ∙ same

kept_one : (c : ℕ) (r : Text) (b : Bool) → cond b None (Some (c ∷ [])) ≡ Some r → c ∷ [] ≡ r
kept_one c r true e = cc
kept_one c r false e = cc

read_byte : (a b : Bool) (u v h l : ℕ) (t other : Text) → a ≡ true → b ≡ true → u ≡ h → v ≡ l → cond (a && b) ((16 * u + v) ∷ t) other ≡ (16 * h + l) ∷ t
read_byte a b u v h l t other ea eb eu ev = rw (ea, eb, eu, ev) refl

agree_escape : (d x : ℕ) (h l : Option ℕ) (cs other r : Text) → hex_value d ≡ h → hex_value x ≡ l
    → ((s : Text) → percent_decoded_text cs ≡ Some s → percent_decode cs ≡ s) → escaped h l cs ≡ Some r
    → cond (is_digit d 16 && is_digit x 16) ((16 * digit_value d + digit_value x) ∷ percent_decode cs) other ≡ r
agree_escape d x None l cs other r eh el later e = cc
agree_escape d x (Some h) None cs other r eh el later e = cc
agree_escape d x (Some h) (Some l) cs other r eh el later e =
    let high = hex_agrees d h eh in
    let low = hex_agrees x l el in
    read_byte (is_digit d 16) (is_digit x 16) (digit_value d) (digit_value x) h l (percent_decode cs) other high.0 low.0 high.1 low.1
    ∙ from_map (16 * h + l) (percent_decoded_text cs) (percent_decode cs) r later e

agree_three : (c d x : ℕ) (cs r : Text) (b : Bool)
    → ((s : Text) → percent_decoded_text (d ∷ x ∷ cs) ≡ Some s → percent_decode (d ∷ x ∷ cs) ≡ s) → ((s : Text) → percent_decoded_text cs ≡ Some s → percent_decode cs ≡ s)
    → cond b (escaped (hex_value d) (hex_value x) cs) (option_map (λ r. c ∷ r) (percent_decoded_text (d ∷ x ∷ cs))) ≡ Some r
    → cond (b && is_digit d 16 && is_digit x 16) ((16 * digit_value d + digit_value x) ∷ percent_decode cs) (c ∷ percent_decode (d ∷ x ∷ cs)) ≡ r
agree_three c d x cs r true next later e = agree_escape d x (hex_value d) (hex_value x) cs (c ∷ percent_decode (d ∷ x ∷ cs)) r refl refl later e
agree_three c d x cs r false next later e = from_map c (percent_decoded_text (d ∷ x ∷ cs)) (percent_decode (d ∷ x ∷ cs)) r next e

agrees : (bs r : Text) → percent_decoded_text bs ≡ Some r → percent_decode bs ≡ r
unfolding percent_decode
agrees [] r e = cc
agrees (c ∷ []) r e = kept_one c r (c == 37) e
agrees (c ∷ d ∷ []) r e = kept_two c d r ((c == 37) || (d == 37)) e
agrees (c ∷ d ∷ x ∷ cs) r e = agree_three c d x cs r (c == 37) (agrees (d ∷ x ∷ cs)) (agrees cs) e

whole_by : (bs t : Text) (o : Option Text) → percent_decoded_text bs ≡ o → is_some o ≡ true → t ≡ percent_decode bs → percent_decoded_text bs ≡ Some t
whole_by bs t None e some is = cc
whole_by bs t (Some r) e some is = e ∙ ap Some (sym (is ∙ agrees bs r e))

pub whole : (bs t : Text) → is_some (percent_decoded_text bs) ≡ true → t ≡ percent_decode bs → percent_decoded_text bs ≡ Some t
whole bs t some is = whole_by bs t (percent_decoded_text bs) refl some is

-- ---- what is no fragment
broken_by : (o : Option Text) → is_some o ≡ false → kind_of_decoded_text o ≡ Err bad_fragment
broken_by None none = refl
broken_by (Some t) none = cc

pub broken : (bs : Text) → is_some (percent_decoded_text bs) ≡ false → kind_of_decoded_text (percent_decoded_text bs) ≡ Err bad_fragment
broken bs none = broken_by (percent_decoded_text bs) none

ill_by : (t : Text) (b : Bool) → is_utf8 t ≡ b → ¬ IsUtf8 t → cond b (kind_of_text t) (Err bad_fragment) ≡ Err bad_fragment
ill_by t true e not_text = absurd (not_text (IsUtf8-from_is_utf8 t e))
ill_by t false e not_text = refl

pub ill : (bs : Text) → is_some (percent_decoded_text bs) ≡ true → ¬ IsUtf8 (percent_decode bs) → kind_of_decoded_text (percent_decoded_text bs) ≡ Err bad_fragment
ill bs some not_text = ap kind_of_decoded_text (whole bs (percent_decode bs) some refl) ∙ ill_by (percent_decode bs) (is_utf8 (percent_decode bs)) refl not_text

-- ---- one turn of the test: a byte, or an escape
pub byte_left : (bs after : Text) → 1 ≤ length bs → get_or bs 0 0 ≢ 37 → after ≡ drop 1 bs → is_some (percent_decoded_text after) ≡ is_some (percent_decoded_text bs)
byte_left [] after l other is = absurd (omega arith)
byte_left (x ∷ xs) after l other is = ap (λ t. is_some (percent_decoded_text t)) is ∙ other_stays x xs (ne_eqb x 37 other)

pub escape_left : (bs after next : Text) → 1 ≤ length bs → get_or bs 0 0 ≡ 37 → after ≡ drop 1 bs → after_digits after ≡ Some next → is_some (percent_decoded_text next) ≡ is_some (percent_decoded_text bs)
escape_left [] after next l is rest e = absurd (omega arith)
escape_left (x ∷ xs) after next l is rest e = escape_some xs next (ap after_digits (sym rest) ∙ e) ∙ ap (λ c. is_some (percent_decoded_text (c ∷ xs))) (sym is)

pub escape_missing : (bs after : Text) → 1 ≤ length bs → get_or bs 0 0 ≡ 37 → after ≡ drop 1 bs → after_digits after ≡ None → is_some (percent_decoded_text bs) ≡ false
escape_missing [] after l is rest e = absurd (omega arith)
escape_missing (x ∷ xs) after l is rest e = ap (λ c. is_some (percent_decoded_text (c ∷ xs))) is ∙ escape_none xs (ap after_digits (sym rest) ∙ e)
