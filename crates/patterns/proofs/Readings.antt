-- A text beside the tree that the grammar reads in it.
use Rattle.std.proofs.Common.{◌≡◌, ℕ, ◌<◌, ◌≤◌, true, Option, Some, None, All, is_some, option_map, IsSomeAnd, IfSome, refl, sym, ap, ◌∙◌}
use Rattle.std.specs.Str.{chars}
use Rattle.definitions.specs.Values.{Text}
use Rattle.definitions.specs.Patterns.{finds, has_match, is_read}
use Rattle.patterns.specs.Nesting.{NestsWithin}
use Rattle.regex.specs.Patterns.{Re, Reads, find_str, default_config}
use Rattle.regex_hir.specs.Meaning.{meaning}
use Rattle.regex_hir.specs.declared.hir.Hir.{Hir}
use Rattle.regex_syntax.proofs.CapturesLemmas.{spans}
use Rattle.regex_syntax.proofs.TreeLaws.{same_refl}
use Rattle.regex_syntax.proofs.Written.{IsReadAs, find_str_as_read, is_some-option_map}
use Rattle.regex_syntax.specs.Brackets.{Nested}
use Rattle.regex_syntax.specs.Grammar.{Names, read}

some_of : (found : Option (Nested Re × Names)) (P : Nested Re × Names → Type 0) → IsSomeAnd found P →
    is_some (option_map (λ p. p.0.value) found) ≡ true
some_of None P h = absurd h
some_of (Some p) P h = refl

-- the grammar reads the text
pub text_is_read : (source : Text) (hir : Hir) (names : Names) → Reads default_config source hir names → is_read source ≡ true
unfolding Reads
text_is_read source hir names h = some_of (read default_config (chars source)) _ h

nests : (limit : ℕ) (found : Option (Nested Re × Names)) (P : Nested Re × Names → Type 0) → IsSomeAnd found P →
    ((p : Nested Re × Names) → P p → p.0.depth ≤ limit) → IfSome (option_map (λ p. p.0.depth) found) (λ depth. depth ≤ limit)
nests limit None P h within = absurd h
nests limit (Some p) P h within = within p h

-- and what it reads nests within the limit
pub text_nests : (source : Text) (hir : Hir) (names : Names) → Reads default_config source hir names → NestsWithin 250 source
unfolding Reads
text_nests source hir names h = nests 250 (read default_config (chars source)) _ h (λ p within. within.0)

finds_as_read : (source : Text) (hir : Hir) (names : Names) (found : Option (Nested Re × Names)) →
    read default_config (chars source) ≡ found → Reads default_config source hir names → (hay : Text) →
    All (λ b. b < 256) hay → is_some (find_str (meaning hir) hay 0) ≡ finds (option_map (λ p. p.0.value) found) hay
unfolding Reads
finds_as_read source hir names None e reads hay small = absurd (rw e at reads)
finds_as_read source hir names (Some p) e reads hay small =
    let written : IsReadAs default_config source p.0.value = rw e (same_refl _) in
    sym (is_some-option_map spans _) ∙ ap is_some (find_str_as_read default_config source hir names p.0.value reads written hay small 0)
    ∙ is_some-option_map spans _

-- a search for the tree is one for the text
pub finds_its_text : (source : Text) (hir : Hir) (names : Names) → Reads default_config source hir names → (hay : Text) →
    All (λ b. b < 256) hay → is_some (find_str (meaning hir) hay 0) ≡ has_match source hay
finds_its_text source hir names = finds_as_read source hir names _ refl
