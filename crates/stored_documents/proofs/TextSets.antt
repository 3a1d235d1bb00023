-- A set of texts, with one text more.
use Rattle.std.proofs.Common.{◌≡◌, ◌||◌, ◌∷◌, ◌++◌, [], Bool, true, false, cond, List, refl, sym, ap, ◌∙◌}
use Rattle.std.proofs.lemmas.List.Folds.{list_any-append}
use Rattle.std.specs.List.{list_any}
use Rattle.definitions.specs.Values.{Text, same_text}
use Rattle.lemmas.proofs.Texts.{same_text_turned}

either_way : (here before : Bool) → cond here true before ≡ (before || (here || false))
either_way true true = refl
either_way true false = refl
either_way false true = refl
either_way false false = refl

pub one_more : (t u : Text) (us : List Text) (before : Bool) → before ≡ list_any (same_text t) us → cond (same_text u t) true before ≡ list_any (same_text t) (us ++ u ∷ [])
one_more t u us before so_far =
    ap (λ b. cond b true before) (same_text_turned u t)
    ∙ either_way (same_text t u) before
    ∙ ap (λ b. b || (same_text t u || false)) so_far
    ∙ sym (list_any-append (same_text t) us (u ∷ []))
