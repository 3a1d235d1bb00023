-- One more part of a text.
use Rattle.std.proofs.Common.{◌≡◌, List, [], ◌∷◌, ◌++◌, ap, sym, ◌∙◌}
use Rattle.std.specs.List.{concat}
use Rattle.std.proofs.lemmas.List.{append-nil}
use Rattle.std.proofs.lemmas.List.Folds.{concat-append}
use Rattle.definitions.specs.Values.{Text}

pub with_one_more : (parts : List Text) (part text : Text) → text ≡ concat parts → text ++ part ≡ concat (parts ++ part ∷ [])
with_one_more parts part text e =
    ap (λ t. t ++ part) e ∙ ap (λ t. concat parts ++ t) (sym (append-nil part)) ∙ sym (concat-append parts (part ∷ []))
