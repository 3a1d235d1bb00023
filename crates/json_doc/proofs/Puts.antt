-- Members put in one after the other, in order of names.
use Rattle.std.proofs.Common.{◌≡◌, List, [], ◌∷◌, ◌++◌, Less, Greater, nat_cmp, refl, ap, ◌∙◌}
use Rattle.std.proofs.lemmas.Cmp.{nat_list_cmp_total}
use Rattle.std.specs.Cmp.Lexicographic.{slice_cmp}
use Rattle.std.specs.List.Sorted.{IsStrictlySortedBy}
use Rattle.std.specs.Ordering.{ordering_reverse}
use Rattle.definitions.specs.Values.{Text, Value}
use Rattle.json_doc.specs.Members.{members_with, AreAbove, HasNamesInOrder}

before_middle : (name : Text) (done : List (Text × Value)) (m : Text × Value) (rest : List (Text × Value)) → AreAbove name (done ++ m ∷ rest)
    → slice_cmp nat_cmp name m.0 ≡ Less
before_middle name [] m rest h = h.0
before_middle name (d ∷ done) m rest h = before_middle name done m rest h.1

-- a name that comes after those before it goes last
pub put_last : (done : List (Text × Value)) (m : Text × Value) (rest : List (Text × Value)) → HasNamesInOrder (done ++ m ∷ rest)
    → members_with m.0 m.1 done ≡ done ++ m ∷ []
unfolding IsStrictlySortedBy
put_last [] m rest h = refl
put_last (d ∷ done) m rest h =
    let after : slice_cmp nat_cmp m.0 d.0 ≡ Greater = nat_list_cmp_total.antisymm m.0 d.0 ∙ ap ordering_reverse (before_middle d.0 done m rest h.0) in
    rw after (ap (λ ms. d ∷ ms) (put_last done m rest h.1))
