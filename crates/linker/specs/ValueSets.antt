-- An equation of values has one proof at most.
use Rattle.std.proofs.Common.{◌≡◌, ℕ, zero, suc, Bool, true, false, ◌&&◌, ℤ, [], refl, sym, ap, ap₂, ◌∙◌, subst, pos}
use Rattle.std.specs.Prelude.{◌==◌}
use Rattle.std.specs.Ordering.{int_eq}
use Rattle.std.proofs.lemmas.Bool.{and_parts}
use Rattle.std.proofs.lemmas.Bool.Decides.{Decides-eqb, Decides-int_eq}
use mathlib.Core.HLevel.{collapsible→set}
use mathlib.Core.Bool.{Bool-set}
use Rattle.definitions.specs.Values.{Text, Value, null, boolean, integer, string, array, object, Elements, no_elements, element, Members, no_members, member, same_text}
use Rattle.lemmas.proofs.Texts.{same_text_itself, same_text_is}

-- ---- a value by its kind and its parts
kind : Value → ℕ
kind null = 0
kind (boolean false) = 1
kind (boolean true) = 2
kind (integer i) = 3
kind (string t) = 4
kind (array vs) = 5
kind (object ms) = 6

integer_in : Value → ℤ
integer_in (integer i) = i
integer_in _ = pos 0

text_in : Value → Text
text_in (string t) = t
text_in _ = []

elements_in : Value → Elements
elements_in (array vs) = vs
elements_in _ = no_elements

members_in : Value → Members
members_in (object ms) = ms
members_in _ = no_members

made : ℕ → Value → Value
made zero v = null
made (suc zero) v = boolean false
made (suc (suc zero)) v = boolean true
made (suc (suc (suc zero))) v = integer (integer_in v)
made (suc (suc (suc (suc zero)))) v = string (text_in v)
made (suc (suc (suc (suc (suc zero))))) v = array (elements_in v)
made _ v = object (members_in v)

made_again : (v : Value) → made (kind v) v ≡ v
unfolding kind made integer_in text_in elements_in members_in
made_again null = refl
made_again (boolean false) = refl
made_again (boolean true) = refl
made_again (integer i) = refl
made_again (string t) = refl
made_again (array vs) = refl
made_again (object ms) = refl

made_of_kind : (n : ℕ) (v : Value) → (kind v == n) ≡ true → made n v ≡ v
made_of_kind n v e = ap (λ k. made k v) (sym ((Decides-eqb (kind v) n).0 e)) ∙ made_again v

-- ---- whether two are the same
mutual
  same_value : Value → Value → Bool
  same_value null w = kind w == 0
  same_value (boolean false) w = kind w == 1
  same_value (boolean true) w = kind w == 2
  same_value (integer i) w = (kind w == 3) && int_eq i (integer_in w)
  same_value (string t) w = (kind w == 4) && same_text t (text_in w)
  same_value (array vs) w = (kind w == 5) && same_elements vs (elements_in w)
  same_value (object ms) w = (kind w == 6) && same_members ms (members_in w)

  same_elements : Elements → Elements → Bool
  same_elements no_elements no_elements = true
  same_elements no_elements (element w ws) = false
  same_elements (element v vs) no_elements = false
  same_elements (element v vs) (element w ws) = same_value v w && same_elements vs ws

  same_members : Members → Members → Bool
  same_members no_members no_members = true
  same_members no_members (member n w ws) = false
  same_members (member m v vs) no_members = false
  same_members (member m v vs) (member n w ws) = same_text m n && (same_value v w && same_members vs ws)

mutual
  unfolding same_value same_elements same_members made

  value_is : (v w : Value) → same_value v w ≡ true → v ≡ w
  value_is null w e = made_of_kind 0 w e
  value_is (boolean false) w e = made_of_kind 1 w e
  value_is (boolean true) w e = made_of_kind 2 w e
  value_is (integer i) w e =
      let parts = and_parts (kind w == 3) (int_eq i (integer_in w)) e in
      ap integer ((Decides-int_eq i (integer_in w)).0 parts.1) ∙ made_of_kind 3 w parts.0
  value_is (string t) w e =
      let parts = and_parts (kind w == 4) (same_text t (text_in w)) e in
      ap string (same_text_is t (text_in w) parts.1) ∙ made_of_kind 4 w parts.0
  value_is (array vs) w e =
      let parts = and_parts (kind w == 5) (same_elements vs (elements_in w)) e in
      ap array (elements_are vs (elements_in w) parts.1) ∙ made_of_kind 5 w parts.0
  value_is (object ms) w e =
      let parts = and_parts (kind w == 6) (same_members ms (members_in w)) e in
      ap object (members_are ms (members_in w) parts.1) ∙ made_of_kind 6 w parts.0

  elements_are : (vs ws : Elements) → same_elements vs ws ≡ true → vs ≡ ws
  elements_are no_elements no_elements e = refl
  elements_are no_elements (element w ws) e = absurd (cc)
  elements_are (element v vs) no_elements e = absurd (cc)
  elements_are (element v vs) (element w ws) e =
      let parts = and_parts (same_value v w) (same_elements vs ws) e in
      ap₂ element (value_is v w parts.0) (elements_are vs ws parts.1)

  members_are : (vs ws : Members) → same_members vs ws ≡ true → vs ≡ ws
  members_are no_members no_members e = refl
  members_are no_members (member n w ws) e = absurd (cc)
  members_are (member m v vs) no_members e = absurd (cc)
  members_are (member m v vs) (member n w ws) e =
      let parts = and_parts (same_text m n) (same_value v w && same_members vs ws) e in
      let others = and_parts (same_value v w) (same_members vs ws) parts.1 in
      ap (λ k. member k v vs) (same_text_is m n parts.0) ∙ ap₂ (member n) (value_is v w others.0) (members_are vs ws others.1)

mutual
  unfolding same_value same_elements same_members kind integer_in text_in elements_in members_in

  same_value_itself : (v : Value) → same_value v v ≡ true
  same_value_itself null = refl
  same_value_itself (boolean false) = refl
  same_value_itself (boolean true) = refl
  same_value_itself (integer i) = (Decides-int_eq i i).1 refl
  same_value_itself (string t) = same_text_itself t
  same_value_itself (array vs) = same_elements_themselves vs
  same_value_itself (object ms) = same_members_themselves ms

  same_elements_themselves : (vs : Elements) → same_elements vs vs ≡ true
  same_elements_themselves no_elements = refl
  same_elements_themselves (element v vs) = rw (same_value_itself v, same_elements_themselves vs) refl

  same_members_themselves : (ms : Members) → same_members ms ms ≡ true
  same_members_themselves no_members = refl
  same_members_themselves (member n v ms) = rw (same_text_itself n, same_value_itself v, same_members_themselves ms) refl

-- a test finds out whether two are equal
pub value_set : IsSet Value
value_set =
    collapsible→set (λ v w p. value_is v w (subst (λ u. same_value v u ≡ true) p (same_value_itself v))) (λ v w p q. ap (value_is v w) (Bool-set _ _ _ _))
