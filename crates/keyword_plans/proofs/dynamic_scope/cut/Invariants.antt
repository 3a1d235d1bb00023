use Rattle.std.proofs.Common.{◌≡◌, ◌≤◌, ◌<◌, ◌++◌, ◌∷◌, [], ℕ, List, length, get_or}
use Rattle.std.specs.List.{All}
use Rattle.definitions.specs.Values.{Text}
use Rattle.linker.specs.declared.linked.Linked.{Linked}
use Rattle.keyword_plans.specs.Searched.{IsSearched}
use Rattle.keyword_plans.specs.declared.dynamic_scope.SearchedAnchor.{SearchedAnchor}
use Rattle.keyword_plans.proofs.dynamic_scope.cut.Given as goal

-- those before are right for what is left, and the others as they were
abbrev pub invariant-loop-one : goal.invariant-loop-one
invariant-loop-one l =
    (d : Linked) (older : List Text) (uri : Text) → l.left ≡ length older → All (IsSearched d (older ++ uri ∷ [])) l.initial.searched
    → ((k : ℕ) (x : SearchedAnchor) → k < l.one-index → IsSearched d older (get_or l.searched k x))
    × ((k : ℕ) (x : SearchedAnchor) → l.one-index ≤ k → k < length l.searched → IsSearched d (older ++ uri ∷ []) (get_or l.searched k x))
