-- The least of the texts that pass a test, one after the other.
use Rattle.std.proofs.Common.{◌≡◌, Bool, true, false, cond, List, [], ◌∷◌, ◌++◌, Some, filter, ap, ◌∙◌}
use Rattle.std.proofs.lemmas.List.Elements.{filter-append}
use Rattle.std.proofs.Common.{append-nil}
use Rattle.definitions.specs.Reach.{least, lesser}
use Rattle.definitions.specs.Values.{Text}
use Rattle.linker.proofs.Least.{least_more}

with_one : (ts : List Text) (t : Text) (b : Bool) → least (ts ++ cond b (t ∷ []) []) ≡ cond b (Some (lesser t (least ts))) (least ts)
with_one ts t true = least_more ts t
with_one ts t false = ap least (append-nil ts)

pub least_filtered : (p : Text → Bool) (ts : List Text) (t : Text)
    → least (filter p (ts ++ t ∷ [])) ≡ cond (p t) (Some (lesser t (least (filter p ts)))) (least (filter p ts))
least_filtered p ts t = ap least (filter-append p ts (t ∷ [])) ∙ with_one (filter p ts) t (p t)
