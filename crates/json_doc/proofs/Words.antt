-- Bytes that are the same as numbers are the same.
use Rattle.std.proofs.Common.{◌≡◌, ◌<◌, ◌≤◌, ◌+◌, ◌++◌, ◌∷◌, ℕ, zero, suc, List, drop, get_or, length, refl, sym, ap, ap₂, ◌∙◌, arith}
use Rattle.std.proofs.lemmas.List.{drop_all, drop_more}
use Rattle.std.proofs.lemmas.Nat.{le_bytes_8}
use Rattle.std.specs.Int.{to_le_bytes, w64}
use Rattle.std.specs.List.{slice_index}
use Rattle.json_doc.specs.Words.{eight_at, word_at}

abbrev pub AreBytes : List ℕ → Type 0
AreBytes b = (i : ℕ) → get_or b i 0 < 256

eight_bytes : (n : ℕ) (b : List ℕ) → AreBytes b → AreBytes (eight_at n b)
eight_bytes n b are zero = are n
eight_bytes n b are (suc zero) = are (n + 1)
eight_bytes n b are (suc (suc zero)) = are (n + 2)
eight_bytes n b are (suc (suc (suc zero))) = are (n + 3)
eight_bytes n b are (suc (suc (suc (suc zero)))) = are (n + 4)
eight_bytes n b are (suc (suc (suc (suc (suc zero))))) = are (n + 5)
eight_bytes n b are (suc (suc (suc (suc (suc (suc zero)))))) = are (n + 6)
eight_bytes n b are (suc (suc (suc (suc (suc (suc (suc zero))))))) = are (n + 7)
eight_bytes n b are (suc (suc (suc (suc (suc (suc (suc (suc i)))))))) = omega arith

same_eight : (n : ℕ) (a b : List ℕ) → AreBytes a → AreBytes b → word_at n a ≡ word_at n b → eight_at n a ≡ eight_at n b
unfolding word_at
same_eight n a b first second same =
    sym (le_bytes_8 (eight_at n a) (word_at n a) refl (eight_bytes n a first) refl) ∙ ap (to_le_bytes w64) same
    ∙ le_bytes_8 (eight_at n b) (word_at n b) refl (eight_bytes n b second) refl

one_more : (b : List ℕ) (n next : ℕ) → next ≡ n + 1 → n < length b → drop n b ≡ slice_index b n ∷ drop next b
one_more b n next is less = drop_more b n 0 less ∙ ap (λ i. slice_index b n ∷ drop i b) (sym is)

eight_more : (b : List ℕ) (n : ℕ) → n + 8 ≤ length b → drop n b ≡ eight_at n b ++ drop (n + 8) b
eight_more b n le =
    one_more b n (n + 1) refl (omega arith)
    ∙ ap (λ t. slice_index b n ∷ t) (one_more b (n + 1) (n + 2) (omega arith) (omega arith)
    ∙ ap (λ t. slice_index b (n + 1) ∷ t) (one_more b (n + 2) (n + 3) (omega arith) (omega arith)
    ∙ ap (λ t. slice_index b (n + 2) ∷ t) (one_more b (n + 3) (n + 4) (omega arith) (omega arith)
    ∙ ap (λ t. slice_index b (n + 3) ∷ t) (one_more b (n + 4) (n + 5) (omega arith) (omega arith)
    ∙ ap (λ t. slice_index b (n + 4) ∷ t) (one_more b (n + 5) (n + 6) (omega arith) (omega arith)
    ∙ ap (λ t. slice_index b (n + 5) ∷ t) (one_more b (n + 6) (n + 7) (omega arith) (omega arith)
    ∙ ap (λ t. slice_index b (n + 6) ∷ t) (one_more b (n + 7) (n + 8) (omega arith) (omega arith))))))))

in_words : (b : List ℕ) → length b ≡ 24 → b ≡ eight_at 0 b ++ (eight_at 8 b ++ eight_at 16 b)
in_words b len =
    let last : drop 16 b ≡ eight_at 16 b = eight_more b 16 (omega (arith, len)) ∙ ap (λ t. eight_at 16 b ++ t) (drop_all 24 b (omega (arith, len))) in
    eight_more b 0 (omega (arith, len)) ∙ ap (λ t. eight_at 0 b ++ t) (eight_more b 8 (omega (arith, len)) ∙ ap (λ t. eight_at 8 b ++ t) last)

pub same_bytes : (a b : List ℕ) → length a ≡ 24 → length b ≡ 24 → AreBytes a → AreBytes b → word_at 0 a ≡ word_at 0 b → word_at 8 a ≡ word_at 8 b → word_at 16 a ≡ word_at 16 b
    → a ≡ b
same_bytes a b len other first second front middle back =
    in_words a len
    ∙ ap₂ (λ x y. x ++ y) (same_eight 0 a b first second front) (ap₂ (λ x y. x ++ y) (same_eight 8 a b first second middle) (same_eight 16 a b first second back))
    ∙ sym (in_words b other)
