-- Laws of planned applications, and of what they found and noted so far.
use Rattle.std.proofs.Common.{◌≡◌, ℕ, ◌+◌, ◌<◌, ◌≤◌, List, [], ◌∷◌, ◌++◌, map, length, cond, Bool, true, false, ◌||◌, refl, sym, ap, ◌∙◌, subst, arith, length-append, append_assoc, take, drop, get_or}
use Rattle.std.proofs.Math.Bool.{or-false, or_assoc}
use Rattle.std.specs.List.{list_any}
use Rattle.std.proofs.lemmas.List.{map-append, take_more, take-append-drop}
use Rattle.std.proofs.lemmas.List.Sums.{sum_by-append, sum_by-cons}
use Rattle.definitions.specs.Values.{Text, Value}
use Rattle.definitions.specs.Keywords.{Meaning}
use Rattle.definitions.specs.Applied as definition
use Rattle.definitions.specs.Applied.{Application, Outcome}
use Rattle.definitions.specs.Evaluated.{pass_count}
use Rattle.lemmas.proofs.Lists.{flat_map-push, map-take_more}
use Rattle.definition_laws.proofs.Places.{value-opened}
use Rattle.json_doc.specs.Docs.{value}
use Rattle.linker.specs.declared.linked.Linked.{Linked}
use Rattle.keyword_plans.specs.LinkedResources.{HasResources}
use Rattle.applicators.specs.Plans.{part_view, planned_view, way_application}
use Rattle.applicators.specs.Subjects.{subject_value}
use Rattle.applicators.specs.declared.planned.Planned.{Planned}
use Rattle.applicators.specs.declared.planned.Way.{Way}
use Rattle.applicators.specs.declared.planned.Way.TheVariants.{Own, Member, Element, Target}
use Rattle.evaluation_context.specs.Frames.{Frame, frame_standing}
use Rattle.evaluation_context.specs.Standings.{Standing, application_at, standing_of}
use Rattle.evaluator.specs.Findings.{FindsAll, Outcomes}
use Rattle.evaluation_log.specs.Notes.{IsOver, Notes, notes_of_both, part_notes, parts_notes}
use Rattle.evaluation_log.specs.Tallies.{Tally, outcome_tally, parts_tally, tally_of_both}
use Rattle.evaluator.specs.Rounds.{IsAt, IsKnown}
use Rattle.evaluator.specs.declared.applied.Applied.{Applied}
use Rattle.evaluation_log.proofs.LogLaws.{added_twice, same_notes, same_tallies, tally_of}

-- ---- where a planned application stands
pub schema_value_planned : (k : Text) (a : Application) (way : Way) (v : Value) (part : definition.Part) (x : Value) → (way_application k a way v part x).schema.value ≡ v
schema_value_planned k a Own v part x = value-opened a.schema.resource _ v _
schema_value_planned k a (Member name) v part x = value-opened a.schema.resource _ v _
schema_value_planned k a (Element i) v part x = value-opened a.schema.resource _ v _
schema_value_planned k a (Target origin) v part x = refl

pub instance_planned : (k : Text) (a : Application) (way : Way) (v : Value) (part : definition.Part) (x : Value) → (way_application k a way v part x).instance ≡ x
instance_planned k a Own v part x = refl
instance_planned k a (Member name) v part x = refl
instance_planned k a (Element i) v part x = refl
instance_planned k a (Target origin) v part x = refl

scope_planned : (k : Text) (a : Application) (way : Way) (v : Value) (part : definition.Part) (x : Value) → (way_application k a way v part x).scope ≡ a.scope
scope_planned k a Own v part x = refl
scope_planned k a (Member name) v part x = refl
scope_planned k a (Element i) v part x = refl
scope_planned k a (Target origin) v part x = refl

at_itself : (a : Application) → application_at (standing_of a) a.schema.value a.instance ≡ a
at_itself a = refl

at_same : (a : Application) (st : Standing) (s x : Value) → st ≡ standing_of a → a.schema.value ≡ s → a.instance ≡ x → a ≡ application_at st s x
at_same a st s x e v i = sym (at_itself a) ∙ ap (λ u. application_at (standing_of a) u a.instance) v ∙ ap (application_at (standing_of a) s) i ∙ ap (λ t. application_at t s x) (sym e)

pub planned_at : (l : Linked) (f : Frame) (k : Text) (a : Application) (p : Planned) (s : Value) → frame_standing f ≡ standing_of (planned_view k a p).1 → s ≡ value p.schema.now
    → IsKnown l k a p → IsAt l f s (subject_value p.subject) (planned_view k a p).1
planned_at l f k a p s e v known = record {
  there =
      at_same (planned_view k a p).1 (frame_standing f) s (subject_value p.subject) e
      (schema_value_planned k a p.way (value p.schema.now) (part_view p.part) (subject_value p.subject) ∙ sym v)
      (instance_planned k a p.way (value p.schema.now) (part_view p.part) (subject_value p.subject));
  inside = known.planned;
  scope = subst (HasResources l) (sym (scope_planned k a p.way (value p.schema.now) (part_view p.part) (subject_value p.subject))) known.scope;
}

-- ---- one more
list_any-snoc : {A : Type 0} (p : A → Bool) (xs : List A) (x : A) → list_any p (xs ++ x ∷ []) ≡ (list_any p xs || p x)
list_any-snoc p [] x = or-false (p x)
list_any-snoc p (y ∷ ys) x = ap (λ b. p y || b) (list_any-snoc p ys x) ∙ sym (or_assoc (p y) (list_any p ys) (p x))

passing_more : (b : Bool) (n : ℕ) → (cond b (n + 1) n) ≡ n + (cond b 1 0)
passing_more true n = omega arith
passing_more false n = omega arith

at_most_one : (b : Bool) → cond {A = ℕ} b 1 0 ≤ 1
at_most_one true = omega arith
at_most_one false = omega arith

pub finds_more : (a : Applied) (valid : Bool) (os : Outcomes) (e : definition.Part × Outcome) → FindsAll a os → valid ≡ e.1.valid
    → FindsAll (record { number = a.number + 1; passing = cond valid (a.passing + 1) a.passing }) (os ++ e ∷ [])
finds_more a valid os (part, o) all one =
    let l : length (os ++ (part, o) ∷ []) ≡ length os + 1 = length-append os ((part, o) ∷ []) in
    let p : pass_count (os ++ (part, o) ∷ []) ≡ pass_count os + (0 + cond o.valid 1 0) = sum_by-append _ os ((part, o) ∷ []) in
    let v : cond valid (a.passing + 1) a.passing ≡ a.passing + cond valid 1 0 = passing_more valid a.passing in
    let w : ◌≡◌ {A = ℕ} (cond valid 1 0) (cond o.valid 1 0) = ap (λ b. cond b 1 0) one in
    record {
      number = omega (arith, all.number, l);
      passing = omega (arith, all.passing, p, v, w);
    }

pub passing_within : (b : Bool) (passing number : ℕ) → passing ≤ number → cond b (passing + 1) passing ≤ number + 1
passing_within b passing number h =
    let v : cond b (passing + 1) passing ≡ passing + cond b 1 0 = passing_more b passing in omega (arith, h, v, at_most_one b)

pub split_at : {X : Type 0} (xs : List X) (i : ℕ) (d : X) → i < length xs → take i xs ++ get_or xs i d ∷ drop (i + 1) xs ≡ xs
split_at xs i d h =
    sym (append_assoc (take i xs) (get_or xs i d ∷ []) (drop (i + 1) xs)) ∙ ap (λ ys. ys ++ drop (i + 1) xs) (sym (take_more xs i d h)) ∙ take-append-drop (i + 1) xs

pub map_split : {X Y : Type 0} (g : X → Y) (xs : List X) (i : ℕ) (x : X) → i < length xs → x ≡ get_or xs i x → map g xs ≡ map g (take i xs) ++ g x ∷ map g (drop (i + 1) xs)
map_split g xs i x h is =
    sym (ap (map g) (split_at xs i x h)) ∙ map-append g (take i xs) _ ∙ ap (λ y. map g (take i xs) ++ g y ∷ map g (drop (i + 1) xs)) (sym is)

tally_more : (es : Outcomes) (e : definition.Part × Outcome) → tally_of_both (parts_tally es) (outcome_tally e.1) ≡ parts_tally (es ++ e ∷ [])
tally_more es (part, o) =
    let c : (parts_tally (es ++ (part, o) ∷ [])).count ≡ (parts_tally es).count + (0 + o.count) = sum_by-append _ es ((part, o) ∷ []) in
    same_tallies (omega (arith, c)) (sym (list_any-snoc _ es (part, o))) (sym (list_any-snoc _ es (part, o)))

pub notes_more : (m : Meaning) (es : Outcomes) (e : definition.Part × Outcome) → notes_of_both (parts_notes m es) (part_notes m e) ≡ parts_notes m (es ++ e ∷ [])
unfolding notes_of_both
notes_more m es e =
    same_notes (sym (flat_map-push _ es e)) (sym (flat_map-push _ es e)) (sym (flat_map-push _ es e)) (sym (flat_map-push _ es e)) (tally_more es e)

-- ---- the loop over what a keyword applies
pub none_found : (a : Applied) → a ≡ record { number = 0; passing = 0 } → FindsAll a []
none_found a e = rw e (record { number = refl; passing = refl })

pub child_more : {X : Type 0} (a b : Applied) (valid : Bool) (g : X → definition.Part × Outcome) (xs : List X) (i : ℕ) (x : X) → i < length xs → x ≡ get_or xs i x
    → FindsAll a (map g (take i xs)) → valid ≡ (g x).1.valid → b ≡ record { number = a.number + 1; passing = cond valid (a.passing + 1) a.passing }
    → FindsAll b (map g (take (i + 1) xs))
child_more a b valid g xs i x h is all one e = rw (e, map-take_more g xs i x h is) (finds_more a valid (map g (take i xs)) (g x) all one)

pub child_noted : {X : Type 0} (m : Meaning) (older old new : Notes) (g : X → definition.Part × Outcome) (xs : List X) (i : ℕ) (x : X) → i < length xs → x ≡ get_or xs i x
    → old ≡ notes_of_both older (parts_notes m (map g (take i xs))) → new ≡ notes_of_both old (part_notes m (g x)) → new ≡ notes_of_both older (parts_notes m (map g (take (i + 1) xs)))
child_noted m older old new g xs i x h is e f =
    f ∙ ap (λ n. notes_of_both n (part_notes m (g x))) e ∙ added_twice older (parts_notes m (map g (take i xs))) (part_notes m (g x))
    ∙ ap (notes_of_both older) (notes_more m (map g (take i xs)) (g x) ∙ ap (parts_notes m) (sym (map-take_more g xs i x h is)))

-- where one is over what there may be, all are
pub child_over : {X : Type 0} (m : Meaning) (older old : Notes) (g : X → definition.Part × Outcome) (xs : List X) (i : ℕ) (x : X) → i < length xs → x ≡ get_or xs i x
    → old ≡ notes_of_both older (parts_notes m (map g (take i xs))) → IsOver old (part_notes m (g x)) → IsOver older (parts_notes m (map g xs))
child_over m older old g xs i x h is e over =
    let before = map g (take i xs) in
    let after = map g (drop (i + 1) xs) in
    let a : old.tally.count ≡ older.tally.count + (parts_tally before).count = ap (λ (t : Tally). t.count) (tally_of old older (parts_notes m before) e) in
    let b : (parts_tally (map g xs)).count ≡ (parts_tally (before ++ g x ∷ after)).count = ap (λ os. (parts_tally os).count) (map_split g xs i x h is) in
    let c : (parts_tally (before ++ g x ∷ after)).count ≡ (parts_tally before).count + (parts_tally (g x ∷ after)).count = sum_by-append _ before (g x ∷ after) in
    let d : (parts_tally (g x ∷ after)).count ≡ (g x).1.count + (parts_tally after).count = sum_by-cons _ (g x) after in
    omega (arith, over, a, b, c, d)
