use Rattle.std.proofs.Common.{◌≡◌, ◌+◌, ◌∙◌, ℕ, Bor, List, Some, ap, length, map, subst, sym, arith}
use Rattle.std.specs.Prelude.{slice_get}
use Rattle.std.specs.List.{range_with_len}
use Rattle.std.proofs.lemmas.List.{length-map}
use Rattle.std.proofs.lemmas.Option.{slice_get_within}
use Rattle.definitions.specs.Values.{Text}
use Rattle.text_numbers.specs.Places.{AreAlike}
use Rattle.text_numbers.specs.TextNumbers.{is_only, text_number}
use Rattle.text_numbers.specs.Trees.{Tells, leaf_of}
use Rattle.text_numbers.proofs.Members.{range_at}
use Rattle.text_numbers.proofs.Sameness.{alike_at_first}
use Rattle.text_numbers.proofs.numbering.TextNumbers.of_borrowed.Goals as goal

-- as many numbers as texts
counted : (texts : List (Bor Text)) (numbers : List ℕ) → numbers ≡ range_with_len 0 (length texts)
    → range_with_len 0 (length (map (λ (t : Bor Text). t.now) texts)) ≡ numbers
counted texts numbers are = ap (range_with_len 0) (length-map texts (λ t. t.now)) ∙ sym are

pub built-requires : goal.built-requires
built-requires c =
    let texts = c.args.texts.now in
    subst (λ ns. AreAlike (map (λ (t : Bor Text). t.now) texts) ns 0) (counted texts c.in_ok-all_numbers.field-0.items c.in_ok-all_numbers.ensures)
    (alike_at_first (map (λ (t : Bor Text). t.now) texts))

-- each number below the end is one of them
member : (texts : List Text) (numbers : List ℕ) (i : ℕ) (text : Text) → range_with_len 0 (length texts) ≡ numbers → slice_get texts i ≡ Some text
    → slice_get numbers i ≡ Some i
member texts numbers i text are is =
    let within = slice_get_within texts i text is in
    let same : 0 + i ≡ i = omega arith in
    subst (λ ns. slice_get ns i ≡ Some i) are (range_at 0 (length texts) i within ∙ ap Some same)

pub returns : goal.returns
unfolding is_only text_number
returns c =
    let texts = map (λ (t : Bor Text). t.now) c.args.texts.now in
    let numbers = c.in_ok-all_numbers.field-0.items in
    let are : range_with_len 0 (length texts) ≡ numbers = counted c.args.texts.now numbers c.in_ok-all_numbers.ensures in
    let tells : Tells (leaf_of c.in_ok-built.field-0) texts numbers = c.in_ok-built.ensures in
    record {
      found = λ text i is. tells.found text i i (member texts numbers i text are is) is;
      only = λ text i is. tells.only text i i (member texts numbers i text are is) is;
    }
