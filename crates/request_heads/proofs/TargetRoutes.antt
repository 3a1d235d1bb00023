-- Targets and the routes.
use Rattle.std.proofs.Common.{refl, sym, ap, ◌∙◌, arith, eqb, eqb-true, eq-eqb, true≢false}
use Rattle.std.specs.Prelude.{◌≡◌, ◌≢◌, ℕ, suc, [], ◌∷◌, Bool, true, false, cond, ◌&&◌, ◌==◌, Option, Some, None, option_map, option_and_then, length, take, drop, codes}
use lib.Pointwise.{pointwise}
use Rattle.std.specs.Str.{IsUtf8, is_utf8}
use Rattle.std.proofs.lemmas.Str.{is_utf8-from_IsUtf8, IsUtf8-from_is_utf8}
use Rattle.memchr.specs.Find.{Nowhere, Passes, is_byte}
use Rattle.percent_encoding.proofs.PercentLemmas.{percent_decode-nil, percent_decode_not_percent}
use Rattle.percent_encoding.specs.Percent.{percent_decode}
use Rattle.definitions.specs.Values.{Text}
use Rattle.definitions.specs.Registries.{Request, put, delete, validate, bundled_from, batch}
use Rattle.http_definitions.specs.Routes.{behind, by_uri, alone, request_or, request_by, routes, unescaped_text}

-- ---- what follows a beginning
pub stripped_is : (path target : Text) → pointwise eqb (take (length path) target) path ≡ true → behind path target ≡ Some (drop (length path) target)
stripped_is [] target e = refl
stripped_is (c ∷ cs) [] e = absurd (true≢false (sym e))
stripped_is (c ∷ cs) (d ∷ ds) e =
    let same : d ≡ c = eqb-true d c (and_both_left (eqb d c) (pointwise eqb (take (length cs) ds) cs) e) in
    let rest = and_both_right (eqb d c) (pointwise eqb (take (length cs) ds) cs) e in
    ap (λ b. cond b (behind cs ds) None) (eq-eqb c d (sym same)) ∙ stripped_is cs ds rest
  where
    and_both_left : (a b : Bool) → (a && b) ≡ true → a ≡ true
    and_both_left true b e = refl
    and_both_left false b e = e

    and_both_right : (a b : Bool) → (a && b) ≡ true → b ≡ true
    and_both_right true b e = e
    and_both_right false b e = absurd (true≢false (sym e))

next_unstripped : (c d : ℕ) (rest : Option Text) (t : Bool) → eqb d c ≡ t → (t ≡ true → rest ≡ None) → cond (c == d) rest None ≡ None
next_unstripped c d rest true e go = ap (λ b. cond b rest None) (eq-eqb c d (sym (eqb-true d c e))) ∙ go refl
next_unstripped c d rest false e go = either (c == d) refl
  where
    either : (t : Bool) → (c == d) ≡ t → cond t rest None ≡ None
    either true same = absurd (true≢false (sym (eq-eqb d c (sym (eqb-true c d same))) ∙ e))
    either false other = refl

pub unstripped_is : (path target : Text) → pointwise eqb (take (length path) target) path ≡ false → behind path target ≡ None
unstripped_is [] target e = absurd (true≢false e)
unstripped_is (c ∷ cs) [] e = refl
unstripped_is (c ∷ cs) (d ∷ ds) e =
    next_unstripped c d (behind cs ds) (eqb d c) refl
    (λ same. unstripped_is cs ds (sym (ap (λ b. b && pointwise eqb (take (length cs) ds) cs) same) ∙ e))

pub whole_behind : (path target : Text) → behind path target ≡ Some [] → target ≡ path
whole_behind [] target e = cc e
whole_behind (c ∷ cs) [] e = absurd (cc e)
whole_behind (c ∷ cs) (d ∷ ds) e = either (c == d) refl (whole_behind cs ds) e
  where
    either : (t : Bool) → (c == d) ≡ t → (behind cs ds ≡ Some [] → ds ≡ cs) → cond t (behind cs ds) None ≡ Some [] → d ∷ ds ≡ c ∷ cs
    either true same go f = let first : c ≡ d = eqb-true c d same in let rest : ds ≡ cs = go f in cc
    either false other go f = absurd (cc f)

-- ---- routes by a URI
pub by_uri_is : (ask : Text → Text → Request) (path target body : Text)
    → option_map (λ uri. ask uri body) (option_and_then unescaped_text (behind path target)) ≡ request_or (behind path target) (λ rest. by_uri ask rest body) None
by_uri_is ask path target body = either (behind path target)
  where
    either : (o : Option Text) → option_map (λ uri. ask uri body) (option_and_then unescaped_text o) ≡ request_or o (λ rest. by_uri ask rest body) None
    either None = refl
    either (Some rest) = refl

-- a target that goes on behind the path of batches, or doesn't begin so, is no route's
pub no_batch : (path target body : Text) → target ≢ path → request_or (behind path target) (λ rest. alone batch rest body) None ≡ None
no_batch path target body other = either (behind path target) refl
  where
    either : (o : Option Text) → behind path target ≡ o → request_or o (λ rest. alone batch rest body) None ≡ None
    either None e = refl
    either (Some []) e = absurd (other (whole_behind path target e))
    either (Some (c ∷ cs)) e = refl

-- ---- each route
abbrev found_at : Text → Text → Option Text
found_at path target = option_and_then unescaped_text (behind path target)

pub put_is : (target body : Text) (o : Option Text) → o ≡ found_at (codes "/schemas?uri=") target
    → option_map (λ u. put u body) o ≡ request_by routes (codes "PUT") target body
put_is target body o e = ap (option_map (λ u. put u body)) e ∙ by_uri_is put (codes "/schemas?uri=") target body

pub delete_is : (target body : Text) (o : Option Text) → o ≡ found_at (codes "/schemas?uri=") target
    → option_map delete o ≡ request_by routes (codes "DELETE") target body
delete_is target body o e = ap (option_map delete) e ∙ by_uri_is (λ u b. delete u) (codes "/schemas?uri=") target body

pub bundle_is : (target body : Text) (o : Option Text) → o ≡ found_at (codes "/bundle?uri=") target
    → option_map bundled_from o ≡ request_by routes (codes "GET") target body
bundle_is target body o e = ap (option_map bundled_from) e ∙ by_uri_is (λ u b. bundled_from u) (codes "/bundle?uri=") target body

pub validate_is : (target body : Text) (o : Option Text) → target ≢ codes "/batch" → o ≡ found_at (codes "/validate?uri=") target
    → option_map (λ u. validate u body) o ≡ request_by routes (codes "POST") target body
validate_is target body o other e =
    ap (option_map (λ u. validate u body)) e
    ∙ by_uri_is validate (codes "/validate?uri=") target body
    ∙ sym (ap (λ (r : Option Request). request_or (behind (codes "/validate?uri=") target) (λ rest. by_uri validate rest body) r) (no_batch (codes "/batch") target body other))

pub batch_is : (target body : Text) → target ≡ codes "/batch" → Some (batch body) ≡ request_by routes (codes "POST") target body
batch_is target body e = sym (ap (λ t. request_by routes (codes "POST") t body) e)

-- ---- texts that are UTF-8
pub utf8_is : (bytes text : Text) → text ≡ bytes → IsUtf8 bytes → Some text ≡ cond (is_utf8 bytes) (Some bytes) None
utf8_is bytes text same utf8 = ap Some same ∙ sym (ap (λ b. cond b (Some bytes) None) (is_utf8-from_IsUtf8 bytes utf8))

pub ill_is : (bytes : Text) → ¬ (IsUtf8 bytes) → None ≡ cond (is_utf8 bytes) (Some bytes) None
ill_is bytes ill = sym (either (is_utf8 bytes) refl)
  where
    either : (b : Bool) → is_utf8 bytes ≡ b → ◌≡◌ {A = Option Text} (cond b (Some bytes) None) None
    either true e = absurd (ill (IsUtf8-from_is_utf8 bytes e))
    either false e = refl

-- ---- texts without escapes
pub no_escapes : (text : Text) → Nowhere (Passes (is_byte 37) text) 0 (length text) → percent_decode text ≡ text
no_escapes [] none = percent_decode-nil
no_escapes (b ∷ bs) none =
    percent_decode_not_percent b bs (λ is. none 0 (omega arith) (omega arith) (ap (λ x. x == 37) is))
    ∙ ap (λ t. b ∷ t) (no_escapes bs (λ i low less passes. none (suc i) (omega arith) (omega (arith, less)) passes))
