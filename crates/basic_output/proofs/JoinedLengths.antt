-- How long texts are that are joined.
use Rattle.std.proofs.Common.{◌≡◌, ◌+◌, ◌<◌, ◌∷◌, ◌++◌, ℕ, suc, List, length, map, min, take, get_or, ap, ◌∙◌, arith}
use Rattle.std.proofs.lemmas.List.{length-append}
use Rattle.lemmas.proofs.Lists.{flat_map-push, map-take_more}
use Rattle.definitions.specs.Values.{Text}
use Rattle.basic_output.specs.Pieces.{later_texts}

-- one more text
pub later_longer : (most count one bytes two : ℕ) (text_at : ℕ → Text) (order : List ℕ) (i place : ℕ) (t : Text) → i < length order → place ≡ get_or order i place → text_at place ≡ t
    → count ≡ min (length (later_texts (map text_at (take i order)))) most → one ≡ min (count + 1) most → bytes ≡ length t → two ≡ min (one + bytes) most
    → two ≡ min (length (later_texts (map text_at (take (i + 1) order)))) most
later_longer most count one bytes two text_at order i place t less there at so_far comma same all =
    let texts = map text_at (take i order) in
    let more : length (later_texts (map text_at (take (i + 1) order))) ≡ length (later_texts texts) + suc (length t) =
    ap (λ ts. length (later_texts ts)) (map-take_more text_at order i place less there) ∙ ap length (flat_map-push (λ s. 44 ∷ s) texts (text_at place))
    ∙ length-append (later_texts texts) (44 ∷ text_at place) ∙ ap (λ s. length (later_texts texts) + suc (length s)) at in
    omega (arith, more, so_far, comma, same, all)

-- .. behind a first one
pub joined_longer : (most later bytes all : ℕ) (t u : Text) (ts : List Text) → u ≡ t → later ≡ min (length (later_texts ts)) most → bytes ≡ length t → all ≡ min (later + bytes) most
    → all ≡ min (length (u ++ later_texts ts)) most
joined_longer most later bytes all t u ts same counted is both =
    let front : length (u ++ later_texts ts) ≡ length t + length (later_texts ts) = length-append u (later_texts ts) ∙ ap (λ x. length x + length (later_texts ts)) same in
    omega (arith, front, counted, is, both)
