-- How many elements the arrays of a value have.
use Rattle.std.proofs.Common.{◌≡◌, ◌≤◌, ◌<◌, ◌&&◌, ℕ, List, [], ◌∷◌, Bool, true, false, length, map, nat_le, refl, sym, ap, ◌∙◌, Vec, Global, vec_len, arith}
use Rattle.std.proofs.lemmas.Bool.Decides.{nat_tests}
use Rattle.definitions.specs.Values.{to_elements, elements_list}
use Rattle.definition_laws.specs.Reading.{has_arrays_within, have_arrays_within}
use Rattle.json_doc.proofs.Views.{value-List}
use Rattle.json_doc.specs.Docs.{value}
use Rattle.json_doc.specs.declared.doc.Doc.{Doc, List as DocList}

as_many : (xs : List Doc) → length (elements_list (to_elements (map value xs))) ≡ length xs
as_many [] = refl
as_many (x ∷ xs) = rw (as_many xs) refl

-- ---- of an array
by_test : (n : ℕ) (d : Doc) (v : Vec Doc Global) (short : Bool) → d ≡ DocList v → nat_le (vec_len v) n ≡ short
    → has_arrays_within n (value d) ≡ (short && have_arrays_within n (to_elements (map value v.items)))
by_test n d v short is h =
    ap (has_arrays_within n) (ap value is ∙ value-List v)
    ∙ ap (λ k. nat_le k n && have_arrays_within n (to_elements (map value v.items))) (as_many v.items ∙ sym v.ok.0)
    ∙ ap (λ b. b && have_arrays_within n (to_elements (map value v.items))) h

-- with so many elements or fewer
pub of_few : (n : ℕ) (d : Doc) (v : Vec Doc Global) → d ≡ DocList v → vec_len v ≤ n → has_arrays_within n (value d) ≡ have_arrays_within n (to_elements (map value v.items))
of_few n d v is few = by_test n d v true is (grind (arith, nat_tests))

pub of_many : (n : ℕ) (d : Doc) (v : Vec Doc Global) → d ≡ DocList v → n < vec_len v → has_arrays_within n (value d) ≡ false
of_many n d v is many = by_test n d v false is (grind (arith, nat_tests))
