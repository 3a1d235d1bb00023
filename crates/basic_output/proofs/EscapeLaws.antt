-- A string that is written, and what stands between its quotation marks.
use Rattle.std.proofs.Common.{◌≡◌, ℕ, ◌-◌, [], ◌∷◌, ◌++◌, length, take, drop, ap, ◌∙◌, arith, append-nil, length-append}
use Rattle.std.proofs.Math.Seq.{take-append_seam}
use Rattle.std.specs.Prelude.{slice_range}
use Rattle.json.specs.Print.{print, print_from, quoted}
use Rattle.json.specs.Token.{string}
use Rattle.lemmas.proofs.Lists.{range_is}
use Rattle.definitions.specs.Values.{Text}

pub one_string : (t : Text) → print (string t ∷ []) ≡ quoted t
unfolding print_from
one_string t = append-nil (quoted t)

pub inside : (e : Text) (n : ℕ) → n ≡ length (34 ∷ (e ++ 34 ∷ [])) - 1 → slice_range (34 ∷ (e ++ 34 ∷ [])) 1 n ≡ e
inside e n is =
    let end : n ≡ length (34 ∷ e) = omega (arith, is, length-append e (34 ∷ [])) in
    range_is (34 ∷ (e ++ 34 ∷ [])) 1 n (omega (arith, end)) ∙ ap (λ i. drop 1 (take i (34 ∷ (e ++ 34 ∷ [])))) end ∙ ap (drop 1) (take-append_seam (34 ∷ e) (34 ∷ []))
