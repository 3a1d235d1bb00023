-- Laws of notes: what is put last, put at a mark, and cut off; and of the texts of units.
use Rattle.std.proofs.Common.{◌≡◌, ◌+◌, ◌||◌, ℕ, List, [], ◌∷◌, ◌++◌, Bool, true, false, length, map, flat_map, take, drop, refl, sym, ap, ◌∙◌, append-nil, append_assoc, arith}
use Rattle.std.proofs.Math.Bool.{or-false, or_assoc}
use Rattle.std.proofs.Math.Seq.{take-append_seam, drop-append_seam}
use Rattle.std.proofs.lemmas.List.{map-append}
use Rattle.std.specs.List.{insert}
use Rattle.definitions.specs.Values.{Text}
use Rattle.definitions.specs.Applied.{Outcome, OutputUnit}
use Rattle.definitions.specs.Outcomes.{leaf}
use Rattle.basic_output.specs.Pieces.{unit_text}
use Rattle.evaluation_log.specs.Notes.{IsSilent}
use Rattle.evaluation_log.specs.Notes.{IsOver, Notes, Lengths, annotation_texts, notes_of_both, no_notes, one_application, outcome_notes}
use Rattle.evaluation_log.specs.Tallies.{Tally, no_tally, tally_of_both}

pub same_notes : {es fs us vs ns ms : List Text} {is js : List ℕ} {t s : Tally} → es ≡ fs → us ≡ vs → ns ≡ ms → is ≡ js → t ≡ s
    → ◌≡◌ {A = Notes} (record { errors = es; annotations = us; names = ns; indexes = is; tally = t }) (record { errors = fs; annotations = vs; names = ms; indexes = js; tally = s })
same_notes e u n i t = rw (e, u, n, i, t) refl

pub same_lengths : {a b c d e f g h : ℕ} → a ≡ b → c ≡ d → e ≡ f → g ≡ h
    → ◌≡◌ {A = Lengths} (record { errors = a; annotations = c; names = e; indexes = g }) (record { errors = b; annotations = d; names = f; indexes = h })
same_lengths e u n i = rw (e, u, n, i) refl

-- ---- lists
pub cut_list : {A : Type 0} (m : ℕ) (xs ys zs : List A) → m ≡ length xs → zs ≡ xs ++ ys → take m zs ≡ xs
cut_list m xs ys zs e f = rw (e, f) (take-append_seam xs ys)

pub rest_list : {A : Type 0} (m : ℕ) (xs ys zs : List A) → m ≡ length xs → zs ≡ xs ++ ys → drop m zs ≡ ys
rest_list m xs ys zs e f = rw (e, f) (drop-append_seam xs ys)

pub inserted_list : {A : Type 0} (m : ℕ) (xs ys zs : List A) (x : A) → m ≡ length xs → zs ≡ xs ++ ys → insert zs m x ≡ xs ++ x ∷ ys
inserted_list m xs ys zs x e f = rw (cut_list m xs ys zs e f, rest_list m xs ys zs e f) refl

-- each of what comes one list after the other
pub mapped_all : {X Y Z : Type 0} (f : Y → Z) (g : X → List Y) (xs : List X) → map f (flat_map g xs) ≡ flat_map (λ x. map f (g x)) xs
mapped_all f g [] = refl
mapped_all f g (x ∷ xs) = map-append f (g x) (flat_map g xs) ∙ ap (λ zs. map f (g x) ++ zs) (mapped_all f g xs)

-- ---- tallies
pub same_tallies : {a b : ℕ} {c d e f : Bool} → a ≡ b → c ≡ d → e ≡ f → ◌≡◌ {A = Tally} (record { count = a; looped = c; deep = e }) (record { count = b; looped = d; deep = f })
same_tallies n l d = rw (n, l, d) refl

pub tallied_nothing : (t : Tally) → tally_of_both t no_tally ≡ t
tallied_nothing t = same_tallies (omega arith) (or-false t.looped) (or-false t.deep)

nothing_tallied : (t : Tally) → tally_of_both no_tally t ≡ t
nothing_tallied t = same_tallies (omega arith) refl refl

tallied_twice : (r s t : Tally) → tally_of_both (tally_of_both r s) t ≡ tally_of_both r (tally_of_both s t)
tallied_twice r s t = same_tallies (omega arith) (or_assoc r.looped s.looped t.looped) (or_assoc r.deep s.deep t.deep)

-- ---- notes
pub added_nothing : (n : Notes) → notes_of_both n no_notes ≡ n
unfolding notes_of_both
added_nothing n = same_notes (append-nil n.errors) (append-nil n.annotations) (append-nil n.names) (append-nil n.indexes) (tallied_nothing n.tally)

pub nothing_added : (n : Notes) → notes_of_both no_notes n ≡ n
unfolding notes_of_both
nothing_added n = same_notes refl refl refl refl (nothing_tallied n.tally)

pub added_twice : (k m n : Notes) → notes_of_both (notes_of_both k m) n ≡ notes_of_both k (notes_of_both m n)
unfolding notes_of_both
added_twice k m n =
    same_notes (append_assoc k.errors m.errors n.errors) (append_assoc k.annotations m.annotations n.annotations) (append_assoc k.names m.names n.names)
    (append_assoc k.indexes m.indexes n.indexes) (tallied_twice k.tally m.tally n.tally)

-- ---- what came after
pub errors_of : (n older more : Notes) → n ≡ notes_of_both older more → n.errors ≡ older.errors ++ more.errors
unfolding notes_of_both
errors_of n older more e = ap (λ (n : Notes). n.errors) e

pub annotations_of : (n older more : Notes) → n ≡ notes_of_both older more → n.annotations ≡ older.annotations ++ more.annotations
unfolding notes_of_both
annotations_of n older more e = ap (λ (n : Notes). n.annotations) e

pub names_of : (n older more : Notes) → n ≡ notes_of_both older more → n.names ≡ older.names ++ more.names
unfolding notes_of_both
names_of n older more e = ap (λ (n : Notes). n.names) e

pub indexes_of : (n older more : Notes) → n ≡ notes_of_both older more → n.indexes ≡ older.indexes ++ more.indexes
unfolding notes_of_both
indexes_of n older more e = ap (λ (n : Notes). n.indexes) e

pub tally_of : (n older more : Notes) → n ≡ notes_of_both older more → n.tally ≡ tally_of_both older.tally more.tally
unfolding notes_of_both
tally_of n older more e = ap (λ (n : Notes). n.tally) e

-- ---- what takes the place of what was evaluated
pub name_after : (older : Notes) (o : Outcome) (name : Text) → notes_of_both (notes_of_both older (record (outcome_notes o) { names = []; indexes = [] })) (record no_notes { names = name ∷ [] })
    ≡ notes_of_both older (record (outcome_notes o) { names = name ∷ []; indexes = [] })
unfolding notes_of_both
name_after older o name =
    same_notes (append-nil _) (append-nil _) (append_assoc older.names [] (name ∷ [])) (append-nil _) (tallied_nothing _)

pub index_after : (older : Notes) (o : Outcome) (index : ℕ) → notes_of_both (notes_of_both older (record (outcome_notes o) { names = []; indexes = [] })) (record no_notes { indexes = index ∷ [] })
    ≡ notes_of_both older (record (outcome_notes o) { names = []; indexes = index ∷ [] })
unfolding notes_of_both
index_after older o index =
    same_notes (append-nil _) (append-nil _) (append-nil _) (append_assoc older.indexes [] (index ∷ [])) (tallied_nothing _)

-- what passes without a word evaluated nothing
pub silent_before : (o : Outcome) → IsSilent o → one_application ≡ record (outcome_notes o) { names = []; indexes = [] }
silent_before o silent = ap (λ (n : Notes). record n { names = []; indexes = [] }) (sym silent.noted)

-- ---- an application's own error
pub error_after : (n mid : Notes) (t : Text) → mid ≡ notes_of_both n one_application
    → notes_of_both mid (record no_notes { errors = t ∷ [] }) ≡ notes_of_both n (record one_application { errors = t ∷ [] })
unfolding notes_of_both
error_after n mid t e =
    ap (λ (m : Notes). notes_of_both m (record no_notes { errors = t ∷ [] })) e ∙ added_twice n one_application (record no_notes { errors = t ∷ [] })

-- ---- a schema that was not applied
or_true : (b : Bool) → true ≡ b || true
or_true true = refl
or_true false = refl

pub looped_after : (n mid : Notes) → mid ≡ notes_of_both n one_application → record mid { tally = record mid.tally { looped = true } } ≡ notes_of_both n (outcome_notes (leaf true false))
unfolding notes_of_both
looped_after n mid e =
    ap (λ (m : Notes). record m { tally = record m.tally { looped = true } }) e ∙ same_notes refl refl refl refl (same_tallies refl (or_true n.tally.looped) refl)

pub deep_after : (n mid : Notes) → mid ≡ notes_of_both n one_application → record mid { tally = record mid.tally { deep = true } } ≡ notes_of_both n (outcome_notes (leaf false true))
unfolding notes_of_both
deep_after n mid e =
    ap (λ (m : Notes). record m { tally = record m.tally { deep = true } }) e ∙ same_notes refl refl refl refl (same_tallies refl refl (or_true n.tally.deep))

-- ---- annotations alone
abbrev pub annotated : List OutputUnit → Notes
annotated us = record no_notes { annotations = annotation_texts us }

pub annotated_then : (n : Notes) (us vs : List OutputUnit) → notes_of_both (notes_of_both n (annotated us)) (annotated vs) ≡ notes_of_both n (annotated (us ++ vs))
unfolding notes_of_both
annotated_then n us vs =
    added_twice n (annotated us) (annotated vs) ∙ ap (λ ts. notes_of_both n (record no_notes { annotations = ts })) (sym (map-append (unit_text true) us vs))

-- ---- more applications than there may be
-- also with what would come later
pub first_over : (n m k : Notes) → IsOver n m → IsOver n (notes_of_both m k)
unfolding notes_of_both
first_over n m k h = omega (arith, h)

-- also with what came before
pub then_over : (n mid m k : Notes) → mid ≡ notes_of_both n m → IsOver mid k → IsOver n (notes_of_both m k)
unfolding notes_of_both
then_over n mid m k e h =
    let c : mid.tally.count ≡ n.tally.count + m.tally.count = ap (λ (x : Notes). x.tally.count) e in omega (arith, h, c)
