-- Members in order of names: those above a name, what is found under names, and what is left past a name.
use Rattle.std.proofs.Common.{◌≡◌, List, [], ◌∷◌, ◌++◌, false, Option, Some, None, Ordering, Less, Equal, Greater, nat_cmp, cond, is_eq, refl, sym, ap, ap₂, subst, ◌∙◌}
use Rattle.std.proofs.lemmas.Cmp.{nat_list_cmp_total, tied_itself}
use Rattle.std.proofs.lemmas.Map.Lookups.{exact_bytes}
use Rattle.std.proofs.lemmas.Map.Text.{is_eq-slice_cmp}
use Rattle.std.specs.Cmp.Lexicographic.{slice_cmp}
use Rattle.std.specs.List.{flat_map}
use Rattle.std.specs.List.Sorted.{IsStrictlySortedBy}
use Rattle.std.specs.Ordering.{is_gt, ordering_reverse}
use Rattle.definitions.specs.Values.{Text, Value, entry, same_text}
use Rattle.json_doc.specs.Members.{AreAbove, HasNamesInOrder}
use Rattle.json_doc.specs.NamedMembers.{IsTaken}
use Rattle.json_doc.proofs.Nestings.{in_order_rest}
use Rattle.lemmas.proofs.Texts.{same_text_itself, same_text_turned}

-- ---- one name below another
pub turned : (t u : Text) → slice_cmp nat_cmp t u ≡ Greater → slice_cmp nat_cmp u t ≡ Less
turned t u e = nat_list_cmp_total.antisymm u t ∙ ap ordering_reverse e

pub unlike : (t u : Text) → slice_cmp nat_cmp t u ≡ Less → same_text t u ≡ false
unlike t u e = sym (is_eq-slice_cmp t u) ∙ ap is_eq e

below_from : (t u q : Text) → slice_cmp nat_cmp t u ≡ Less → is_gt (slice_cmp nat_cmp u q) ≡ false → slice_cmp nat_cmp t q ≡ Less
below_from t u q e = by (slice_cmp nat_cmp u q) refl
  where
    by : (o : Ordering) → slice_cmp nat_cmp u q ≡ o → is_gt o ≡ false → slice_cmp nat_cmp t q ≡ Less
    by Less f from = nat_list_cmp_total.trans t u q e f
    by Equal f from = subst (λ v. slice_cmp nat_cmp t v ≡ Less) (exact_bytes u q f) e
    by Greater f from = absurd (cc)

-- ---- members above a name
pub others_above : (m : Text × Value) (ms : List (Text × Value)) → HasNamesInOrder (m ∷ ms) → AreAbove m.0 ms
unfolding IsStrictlySortedBy
others_above m ms h = h.0

pub above_lower : (t u : Text) (ms : List (Text × Value)) → slice_cmp nat_cmp t u ≡ Less → AreAbove u ms → AreAbove t ms
above_lower t u [] e h = tt
above_lower t u (m ∷ ms) e h = (nat_list_cmp_total.trans t u m.0 e h.0, above_lower t u ms e h.1)

pub all_above : (name : Text) (m : Text × Value) (ms : List (Text × Value)) → slice_cmp nat_cmp name m.0 ≡ Less → HasNamesInOrder (m ∷ ms) → AreAbove name (m ∷ ms)
all_above name m ms e h = (e, above_lower name m.0 ms e (others_above m ms h))

-- ---- what is found under a name
pub absent : (name : Text) (ms : List (Text × Value)) → AreAbove name ms → entry name ms ≡ None
absent name [] h = refl
absent name (m ∷ ms) h = rw (unlike name m.0 h.0) (absent name ms h.1)

pub found_first : (name : Text) (m : Text × Value) (ms : List (Text × Value)) → name ≡ m.0 → entry name (m ∷ ms) ≡ Some m.1
found_first name m ms e = ap (λ b. cond b (Some m.1) (entry name ms)) (ap (λ t. same_text t m.0) e ∙ same_text_itself m.0)

-- a name above the first member's is found among the others, if at all
pub past_first : (m : Text × Value) (ms : List (Text × Value)) (q : Text) → slice_cmp nat_cmp m.0 q ≡ Less → entry q ms ≡ entry q (m ∷ ms)
past_first m ms q e = sym (ap (λ b. cond b (Some m.1) (entry q ms)) (same_text_turned q m.0 ∙ unlike m.0 q e))

-- members above a name find the same in lists that have the same under each such name
pub found_alike : {T : Type 0} (f : Text × Value → Option Value → List T) (name : Text) (before after ms : List (Text × Value))
    → ((q : Text) → slice_cmp nat_cmp name q ≡ Less → entry q after ≡ entry q before) → AreAbove name ms
    → flat_map (λ m. f m (entry m.0 after)) ms ≡ flat_map (λ m. f m (entry m.0 before)) ms
found_alike f name before after [] alike h = refl
found_alike f name before after (m ∷ ms) alike h = ap₂ (λ a b. a ++ b) (ap (f m) (alike m.0 h.0)) (found_alike f name before after ms alike h.1)

-- ---- what is left past a name
-- of members in order, those that aren't below the name are left
pub record AreLeft (name : Text) (before left : List (Text × Value)) : Type 0 where
  pub kept : (q : Text) → is_gt (slice_cmp nat_cmp name q) ≡ false → entry q left ≡ entry q before
  pub ordered : HasNamesInOrder left

module _ (name : Text) (before : List (Text × Value)) where
  pub left_after : (m : Text × Value) (ms : List (Text × Value)) → slice_cmp nat_cmp m.0 name ≡ Less → AreLeft name before (m ∷ ms) → AreLeft name before ms
  left_after m ms e left = record {
    kept = λ q from. past_first m ms q (below_from m.0 name q e from) ∙ left.kept q from;
    ordered = in_order_rest m ms left.ordered;
  }

  found_there : (ms : List (Text × Value)) → AreLeft name before ms → entry name ms ≡ entry name before
  found_there ms left = left.kept name (ap is_gt (tied_itself nat_list_cmp_total name))

  pub taken : (m : Text × Value) (ms : List (Text × Value)) → slice_cmp nat_cmp m.0 name ≡ Equal → AreLeft name before (m ∷ ms) → IsTaken name before ms (Some m.1)
  taken m ms at left =
      let same : m.0 ≡ name = exact_bytes m.0 name at in
      record {
        found = sym (found_first name m ms (sym same)) ∙ found_there (m ∷ ms) left;
        later = λ q e. past_first m ms q (ap (λ t. slice_cmp nat_cmp t q) same ∙ e) ∙ left.kept q (ap is_gt e);
        passed = subst (λ t. AreAbove t ms) same (others_above m ms left.ordered);
        ordered = in_order_rest m ms left.ordered;
      }

  pub none_taken : (ms : List (Text × Value)) → AreAbove name ms → AreLeft name before ms → IsTaken name before ms None
  none_taken ms above left = record {
    found = sym (absent name ms above) ∙ found_there ms left;
    later = λ q e. left.kept q (ap is_gt e);
    passed = above;
    ordered = left.ordered;
  }
