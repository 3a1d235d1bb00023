-- All pass where as many pass as there are.
use Rattle.std.proofs.Common.{◌≡◌, ◌<◌, ℕ, suc, ◌+◌, List, [], ◌∷◌, length, Bool, true, false, cond, None, ◌&&◌, nat_eq, refl, sym, ap, ap₂, ◌∙◌, arith, rules}
use Rattle.std.proofs.lemmas.Bool.Decides.{nat_tests}
use Rattle.std.proofs.lemmas.List.Sums.{count_by-le-length}
use Rattle.definitions.specs.Values.{Text, Value}
use Rattle.definitions.specs.Keywords.{Meaning}
use Rattle.definitions.specs.Applied.{Application, Outcome, Part, Rules}
use Rattle.definitions.specs.Evaluated.{pass_count, all_pass, keyword_passes}
use Rattle.keywords.specs.Rows.{row_of}
use Rattle.keywords.specs.declared.keyword.Keyword.{Keyword}
use Rattle.keywords.specs.declared.keyword.Keyword.TheVariants as variants
use Rattle.keywords.specs.declared.keyword.Keyword.TheVariants.{Ref, DynamicRef, Pattern, AnyOf, OneOf, Not, If, MinContains, MaxContains}
use Rattle.assertions.specs.AssertionView.{assertion_in}
use Rattle.std.proofs.lemmas.List.Sums.{sum_by-cons, count_by-le-length}

differ : (m n : ℕ) → m < n → nat_eq m n ≡ false
differ m n h = grind (arith, nat_tests)

equal_suc : (m n : ℕ) → nat_eq (1 + m) (suc n) ≡ nat_eq m n
equal_suc m n = grind (arith, nat_tests)

pass_with : (o : Part × Outcome) (os : List (Part × Outcome)) (b : Bool) → o.1.valid ≡ b → nat_eq (pass_count os) (length os) ≡ all_pass os
    → nat_eq (cond o.1.valid 1 0 + pass_count os) (suc (length os)) ≡ (o.1.valid && all_pass os)
pass_with o os true e rest = rw e (equal_suc _ _ ∙ rest)
pass_with o os false e rest = rw e (differ _ _ (let l = count_by-le-length (λ (o : Part × Outcome). o.1.valid) os in omega (arith, l)))

all_pass_by_count : (os : List (Part × Outcome)) → nat_eq (pass_count os) (length os) ≡ all_pass os
all_pass_by_count [] = refl
all_pass_by_count (o ∷ os) =
    let c : pass_count (o ∷ os) ≡ cond o.1.valid 1 0 + pass_count os = sum_by-cons _ o os in
    ap (λ n. nat_eq n (suc (length os))) c ∙ pass_with o os o.1.valid refl (all_pass_by_count os)

-- where all have to pass
pub by_count : (rules : Rules) (run : Application → Outcome) (a : Application) (k : Text) (meaning : Meaning) (v : Value) (os : List (Part × Outcome)) (p n : ℕ)
    → keyword_passes rules run a k meaning v os ≡ all_pass os → n ≡ length os → p ≡ pass_count os → nat_eq p n ≡ keyword_passes rules run a k meaning v os
by_count rules run a k meaning v os p n all e f = ap₂ nat_eq f e ∙ all_pass_by_count os ∙ sym all

-- all have to pass, unless the keyword is one of these or asserts something itself
pub with_all : (keyword : Keyword) → (keyword ≡ Ref → ⊥) → (keyword ≡ DynamicRef → ⊥) → (keyword ≡ Pattern → ⊥) → (keyword ≡ AnyOf → ⊥) → (keyword ≡ OneOf → ⊥)
    → (keyword ≡ Not → ⊥) → (keyword ≡ If → ⊥) → (keyword ≡ variants.Contains → ⊥) → (keyword ≡ MinContains → ⊥) → (keyword ≡ MaxContains → ⊥) → None ≡ assertion_in (row_of keyword).meaning
    → (rules : Rules) (run : Application → Outcome) (a : Application) (k : Text) (v : Value) (os : List (Part × Outcome)) → keyword_passes rules run a k (row_of keyword).meaning v os ≡ all_pass os
with_all Ref ref dynamic pattern any one negated condition contains least most none over run a k v os = absurd (ref refl)
with_all DynamicRef ref dynamic pattern any one negated condition contains least most none over run a k v os = absurd (dynamic refl)
with_all Pattern ref dynamic pattern any one negated condition contains least most none over run a k v os = absurd (pattern refl)
with_all AnyOf ref dynamic pattern any one negated condition contains least most none over run a k v os = absurd (any refl)
with_all OneOf ref dynamic pattern any one negated condition contains least most none over run a k v os = absurd (one refl)
with_all Not ref dynamic pattern any one negated condition contains least most none over run a k v os = absurd (negated refl)
with_all If ref dynamic pattern any one negated condition contains least most none over run a k v os = absurd (condition refl)
with_all variants.Contains ref dynamic pattern any one negated condition contains least most none over run a k v os = absurd (contains refl)
with_all MinContains ref dynamic pattern any one negated condition contains least most none over run a k v os = absurd (least refl)
with_all MaxContains ref dynamic pattern any one negated condition contains least most none over run a k v os = absurd (most refl)
with_all _ ref dynamic pattern any one negated condition contains least most none over run a k v os = first_of (cc, search rules)
