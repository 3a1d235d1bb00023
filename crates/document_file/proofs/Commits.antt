-- What a commit of entries is to the rows that they are.
use Rattle.std.proofs.Common.{ap, false, inl, inr, sym, List, ◌≡◌, ◌⊎◌, ◌∙◌}
use Rattle.stored_rows.specs.Rows.{Row}
use Rattle.sqlite_trees.specs.Tree.{Trees}
use Rattle.sqlite_trees.specs.View.{IsClean, View}
use Rattle.document_file.specs.Tables.{HoldsRows, MayFind}
use Rattle.document_file.proofs.Rows.{same_rows}

-- what is found is the last commit's, or what might have been found before
pub committed_rows : (old new : View) {was is : Trees → Type 0} → (IsClean new → IsClean old)
    → ((db : Trees) → is db → ((old.is_broken ≡ false) × (db ≡ old.trees)) ⊎ was db)
    → (rs ss : List Row) → HoldsRows old rs → MayFind new is ss → MayFind old was ss ⊎ (ss ≡ rs)
committed_rows old new {was} {is} back crash rs ss held found = go (crash found.1.0 found.1.1)
  where
    go : ((old.is_broken ≡ false) × (found.1.0 ≡ old.trees)) ⊎ was found.1.0 → MayFind old was ss ⊎ (ss ≡ rs)
    go (inl new) = inr (same_rows ss rs (sym found.1.2 ∙ ap (λ f. f 0) new.1 ∙ held (back found.0) new.0))
    go (inr old) = inl (back found.0, (found.1.0, old, found.1.2))
