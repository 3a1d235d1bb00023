-- Laws of the uses of keywords, so far and one group more.
use Rattle.std.proofs.Common.{◌≡◌, ℕ, zero, suc, ◌+◌, ◌<◌, List, [], ◌∷◌, ◌++◌, length, Bool, true, ◌&&◌, refl, sym, ap, ap₂, ◌∙◌, arith, append-nil, take, get_or, flat_map, subst, Bor}
use Rattle.std.specs.List.{list_all}
use Rattle.std.proofs.lemmas.List.{take_more}
use Rattle.std.proofs.lemmas.Grind.{flat_map-append}
use Rattle.std.proofs.lemmas.List.Sums.{sum_by-append}
use Rattle.std.proofs.lemmas.List.Folds.{list_all-append, list_any-append}
use Rattle.std.proofs.lemmas.Bool.{and_parts, ltb-true}
use Rattle.definitions.specs.Values.{Value}
use Rattle.definitions.specs.Applied.{Application}
use Rattle.definitions.specs.Outcomes.{Use, use_errors}
use Rattle.linker.specs.declared.linked.Linked.{Linked}
use Rattle.evaluation_context.specs.Frames.{Frame}
use Rattle.evaluator.specs.Rounds.{IsAt}
use Rattle.evaluator.specs.Groups.{first_groups, stands_alone}
use Rattle.keywords.specs.Groups.{group_number, groups_before, in_order}
use Rattle.evaluation_log.specs.Notes.{IsOver, Notes, error_texts, kept_annotations, notes_of_both, uses_notes}
use Rattle.evaluation_log.proofs.LogLaws.{added_twice, first_over, same_notes, same_tallies, then_over}
use Rattle.evaluation_log.specs.Tallies.{tally_of_both, uses_tally}

pub all_at : {X : Type 0} (p : X → Bool) (xs : List X) (i : ℕ) (d : X) → list_all p xs ≡ true → i < length xs → p (get_or xs i d) ≡ true
all_at p [] i d all h = absurd (omega arith)
all_at p (x ∷ xs) zero d all h = (and_parts (p x) (list_all p xs) all).0
all_at p (x ∷ xs) (suc i) d all h = all_at p xs i d (and_parts (p x) (list_all p xs) all).1 (omega arith)

pub all_alone : list_all stands_alone first_groups ≡ true
unfolding first_groups group_number groups_before in_order
all_alone = refl

pub few_groups : length first_groups < 63
unfolding first_groups group_number groups_before in_order
few_groups = ltb-true (length first_groups) 63 refl

tally_more : (us vs : List Use) → uses_tally (us ++ vs) ≡ tally_of_both (uses_tally us) (uses_tally vs)
tally_more us vs = same_tallies (sum_by-append _ us vs) (list_any-append _ us vs) (list_any-append _ us vs)

pub uses_more_notes : (a : Application) (us vs : List Use) → notes_of_both (uses_notes a us) (uses_notes a vs) ≡ uses_notes a (us ++ vs)
unfolding notes_of_both
uses_more_notes a us vs =
    same_notes (sym (flat_map-append (λ u. error_texts (use_errors a u)) us vs)) (sym (flat_map-append (kept_annotations a) us vs)) (sym (flat_map-append (λ u. u.names) us vs))
    (sym (flat_map-append (λ u. u.indexes) us vs)) (sym (tally_more us vs))

pub both_valid : (p q : Bool) (us vs : List Use) → p ≡ list_all (λ u. u.passes) us → q ≡ list_all (λ u. u.passes) vs → (p && q) ≡ list_all (λ u. u.passes) (us ++ vs)
both_valid p q us vs e f = ap₂ (λ x y. x && y) e f ∙ sym (list_all-append (λ (u : Use). u.passes) us vs)

-- more applications than there may be: also with later uses, and also with earlier ones
pub uses_first_over : (a : Application) (n : Notes) (us vs : List Use) → IsOver n (uses_notes a us) → IsOver n (uses_notes a (us ++ vs))
uses_first_over a n us vs h = subst (IsOver n) (uses_more_notes a us vs) (first_over n (uses_notes a us) (uses_notes a vs) h)

pub uses_then_over : (a : Application) (n mid : Notes) (us vs : List Use) → mid ≡ notes_of_both n (uses_notes a us) → IsOver mid (uses_notes a vs) → IsOver n (uses_notes a (us ++ vs))
uses_then_over a n mid us vs e h = subst (IsOver n) (uses_more_notes a us vs) (then_over n mid (uses_notes a us) (uses_notes a vs) e h)

-- ---- after what leaves the linked documents and the way as they were
pub still_at : {l m : Bor Linked} {f g : Frame} {s x : Value} {a : Application} → m ≡ l → g ≡ f → IsAt l.now f s x a → IsAt m.now g s x a
still_at {l} {m} {f} {g} {s} {x} {a} same back at = subst (λ (k : Bor Linked). IsAt k.now g s x a) (sym same) (subst (λ (h : Frame). IsAt l.now h s x a) (sym back) at)

-- ---- the loop over groups
pub flat_more : {X Y : Type 0} (f : X → List Y) (xs : List X) (i : ℕ) (d : X) → i < length xs → flat_map f (take (i + 1) xs) ≡ flat_map f (take i xs) ++ f (get_or xs i d)
flat_more f xs i d h =
    ap (flat_map f) (take_more xs i d h) ∙ flat_map-append f (take i xs) (get_or xs i d ∷ []) ∙ ap (λ ys. flat_map f (take i xs) ++ ys) (append-nil (f (get_or xs i d)))

-- a group that does nothing
pub flat_same : {X Y : Type 0} (f : X → List Y) (xs : List X) (i : ℕ) (d : X) → i < length xs → f (get_or xs i d) ≡ [] → flat_map f (take i xs) ≡ flat_map f (take (i + 1) xs)
flat_same f xs i d h none = sym (flat_more f xs i d h ∙ ap (λ ys. flat_map f (take i xs) ++ ys) none ∙ append-nil (flat_map f (take i xs)))

pub group_valid : {X : Type 0} (p q : Bool) (uses : X → List Use) (xs : List X) (i : ℕ) (d : X) → i < length xs
    → p ≡ list_all (λ u. u.passes) (flat_map uses (take i xs)) → q ≡ list_all (λ u. u.passes) (uses (get_or xs i d))
    → (p && q) ≡ list_all (λ u. u.passes) (flat_map uses (take (i + 1) xs))
group_valid p q uses xs i d less so_far more =
    both_valid p q (flat_map uses (take i xs)) (uses (get_or xs i d)) so_far more ∙ ap (list_all (λ (u : Use). u.passes)) (sym (flat_more uses xs i d less))

pub group_noted : {X : Type 0} (a : Application) (older old new : Notes) (uses : X → List Use) (xs : List X) (i : ℕ) (d : X) → i < length xs
    → old ≡ notes_of_both older (uses_notes a (flat_map uses (take i xs))) → new ≡ notes_of_both old (uses_notes a (uses (get_or xs i d)))
    → new ≡ notes_of_both older (uses_notes a (flat_map uses (take (i + 1) xs)))
group_noted a older old new uses xs i d less e f =
    f ∙ ap (λ n. notes_of_both n (uses_notes a (uses (get_or xs i d)))) e ∙ added_twice older (uses_notes a (flat_map uses (take i xs))) (uses_notes a (uses (get_or xs i d)))
    ∙ ap (notes_of_both older) (uses_more_notes a (flat_map uses (take i xs)) (uses (get_or xs i d)) ∙ ap (uses_notes a) (sym (flat_more uses xs i d less)))
