-- Laws of keywords that are used one after the other.
use Rattle.std.proofs.Common.{◌≡◌, ◌∙◌, ◌<◌, ◌+◌, ◌&&◌, ◌++◌, ◌∷◌, ℕ, List, [], Bool, true, Ok, Err, refl, ap, length, subst, sym, take, drop, flat_map, get_or}
use Rattle.std.proofs.lemmas.Grind.{flat_map-append}
use Rattle.definitions.specs.Applied.{Application}
use Rattle.definitions.specs.Outcomes.{Use}
use Rattle.evaluator.specs.Applying.{HasUses}
use Rattle.evaluation_log.specs.Logs.{log_view}
use Rattle.evaluation_log.specs.Notes.{notes_of_both, uses_notes}
use Rattle.evaluator.specs.declared.applying.Evaluation.{Evaluation}
use Rattle.evaluator.specs.declared.halt.Halt.{Halt}
use Rattle.evaluation_log.proofs.LogLaws.{added_nothing, added_twice}
use Rattle.evaluator.proofs.PlannedLaws.{split_at}
use Rattle.evaluator.proofs.UseLaws.{both_valid, flat_more, uses_first_over, uses_more_notes, uses_then_over}

pub none_used : (e : Evaluation) (a : Application) → HasUses e e (Ok true) a []
none_used e a = record { found = refl; noted = sym (added_nothing (log_view e.log)); err = tt }

pub uses_both : {older mid newer : Evaluation} {p q : Bool} (a : Application) (us vs : List Use) → HasUses older mid (Ok p) a us → HasUses mid newer (Ok q) a vs
    → HasUses older newer (Ok (p && q)) a (us ++ vs)
uses_both {older} {mid} {newer} {p} {q} a us vs first second = record {
  found = both_valid p q us vs first.found second.found;
  noted = second.noted ∙ ap (λ n. notes_of_both n (uses_notes a vs)) first.noted ∙ added_twice (log_view older.log) (uses_notes a us) (uses_notes a vs)
      ∙ ap (notes_of_both (log_view older.log)) (uses_more_notes a us vs);
  err = tt;
}

pub second_halts : {older mid newer : Evaluation} {p : Bool} {h : Halt} (a : Application) (us vs : List Use) → HasUses older mid (Ok p) a us → HasUses mid newer (Err h) a vs
    → HasUses older newer (Err h) a (us ++ vs)
second_halts {older} {mid} a us vs first second = record {
  found = tt;
  noted = tt;
  err = λ other. let fault = second.err other in (fault.0, uses_then_over a (log_view older.log) (log_view mid.log) us vs first.noted fault.1);
}

pub first_halts : {older newer : Evaluation} {h : Halt} (a : Application) (us vs : List Use) → HasUses older newer (Err h) a us → HasUses older newer (Err h) a (us ++ vs)
first_halts {older} a us vs first = record {
  found = tt;
  noted = tt;
  err = λ other. let fault = first.err other in (fault.0, uses_first_over a (log_view older.log) us vs fault.1);
}

-- ---- the loop over groups
pub group_used : {X : Type 0} {older old new : Evaluation} {p q : Bool} (a : Application) (uses : X → List Use) (xs : List X) (i : ℕ) (d : X) → i < length xs
    → HasUses older old (Ok p) a (flat_map uses (take i xs)) → HasUses old new (Ok q) a (uses (get_or xs i d)) → HasUses older new (Ok (p && q)) a (flat_map uses (take (i + 1) xs))
group_used {X} {older} {old} {new} {p} {q} a uses xs i d less so_far more =
    subst (λ us. HasUses older new (Ok (p && q)) a us) (sym (flat_more uses xs i d less)) (uses_both a (flat_map uses (take i xs)) (uses (get_or xs i d)) so_far more)

pub group_halts : {X : Type 0} {older old new : Evaluation} {p : Bool} {h : Halt} (a : Application) (uses : X → List Use) (xs : List X) (i : ℕ) (d : X) → i < length xs
    → HasUses older old (Ok p) a (flat_map uses (take i xs)) → HasUses old new (Err h) a (uses (get_or xs i d)) → HasUses older new (Err h) a (flat_map uses xs)
group_halts {X} {older} {old} {new} {p} {h} a uses xs i d less so_far more =
    let us = flat_map uses (take i xs) in
    let vs = uses (get_or xs i d) in
    let ws = flat_map uses (drop (i + 1) xs) in
    let same : us ++ (vs ++ ws) ≡ flat_map uses xs = sym (flat_map-append uses (take i xs) (get_or xs i d ∷ drop (i + 1) xs)) ∙ ap (flat_map uses) (split_at xs i d less) in
    subst (λ ys. HasUses older new (Err h) a ys) same (second_halts a us (vs ++ ws) so_far (first_halts a vs ws more))
