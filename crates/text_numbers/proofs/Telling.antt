-- What trees tell, put together of their parts.
use Rattle.std.proofs.Common.{◌≡◌, ◌+◌, Option, None, suc, map, option_map, length-append, ℕ, List, [], ◌∷◌, Bool, true, false, cond, not, ◌++◌, Some, filter, length, nat_lt, refl, sym, ap, subst, ◌∙◌, arith}
use Rattle.std.specs.Prelude.{option_and_then, slice_get}
use Rattle.std.specs.List.{position_from}
use Rattle.std.specs.Option.{option_map_or}
use Rattle.std.proofs.lemmas.Option.{slice_get_within}
use Rattle.definitions.specs.Values.{Text}
use Rattle.text_numbers.proofs.Members.{filter_keeps}
use Rattle.std.proofs.lemmas.Bool.Decides.{nat_tests}
use Rattle.text_numbers.proofs.Sameness.{value_is}
use Rattle.text_numbers.specs.Places.{AreSame, is_side, is_toward, place_value}
use Rattle.text_numbers.specs.Turns.{goes_aside, turned}
use Rattle.text_numbers.specs.Trees.{Tells, leaf_of, only_leaf}
use Rattle.text_numbers.specs.declared.tree.Leaf.{Leaf}
use Rattle.text_numbers.specs.declared.tree.Tree.{Tree}
use Rattle.text_numbers.specs.declared.tree.Turn.{Turn}

-- ---- a leaf
pub leaf_tells : (texts : List Text) (numbers : List ℕ) → AreSame texts numbers → Tells (λ text. only_leaf numbers) texts numbers
leaf_tells texts [] same =
    record {
      found = λ text a i at is. cc;
      only = λ text a i at is single. cc;
    }
leaf_tells texts (n ∷ ns) same =
    record {
      found = λ text a i at is. same.same 0 a n i refl at ∙ is;
      only = λ text a i at is single.
          let one : length (n ∷ ns) ≡ 1 = grind (arith, nat_tests, single) in
          let within = slice_get_within (n ∷ ns) a i at in
          let first : a ≡ 0 = omega arith in
          let both : Some i ≡ Some n = sym at ∙ ap (slice_get (n ∷ ns)) first in
          cc;
    }

-- ---- a division
side : (P : Leaf → Type 0) (test : Bool) (x y : Leaf) → (test ≡ true → P x) → (test ≡ false → P y) → P (cond test x y)
side P true x y when_true when_false = when_true refl
side P false x y when_true when_false = when_false refl

-- a number stands on the side that its text is on
stands : (texts : List Text) (position bound i : ℕ) (below : Bool) (text : Text) → slice_get texts i ≡ Some text
    → is_side texts position bound below i ≡ is_toward position bound below text
stands texts position bound i true text is = ap (λ value. nat_lt value bound) (value_is texts position i text is)
stands texts position bound i false text is = ap (λ value. not (nat_lt value bound)) (value_is texts position i text is)

other_side : (position bound : ℕ) (below : Bool) (text : Text) → is_toward position bound below text ≡ false → is_toward position bound (not below) text ≡ true
other_side position bound true text away = ap not away
other_side position bound false text away =
    (elim (nat_lt (place_value text position) bound) as (λ b. not b ≡ false → b ≡ true) [ true ↦ λ e. refl | false ↦ λ e. sym e ]) away

led : (P : Leaf → Type 0) (texts : List Text) (numbers : List ℕ) (position bound : ℕ) (below : Bool) (aside ahead : Text → Leaf)
    (text : Text) (a i : ℕ) → slice_get numbers a ≡ Some i → slice_get texts i ≡ Some text
    → ((b : ℕ) → slice_get (filter (is_side texts position bound below) numbers) b ≡ Some i → P (aside text))
    → ((b : ℕ) → slice_get (filter (is_side texts position bound (not below)) numbers) b ≡ Some i → P (ahead text))
    → P (cond (is_toward position bound below text) (aside text) (ahead text))
led P texts numbers position bound below aside ahead text a i at is when_aside when_ahead =
    side P (is_toward position bound below text) (aside text) (ahead text)
    (λ test.
    let there = filter_keeps (is_side texts position bound below) numbers a i at (stands texts position bound i below text is ∙ test) in
    when_aside there.0 there.1)
    (λ test.
    let there = filter_keeps (is_side texts position bound (not below)) numbers a i at
    (stands texts position bound i (not below) text is ∙ other_side position bound below text test) in
    when_ahead there.0 there.1)

divided_tells : (texts : List Text) (numbers : List ℕ) (position bound : ℕ) (below : Bool) (aside ahead : Text → Leaf)
    → Tells aside texts (filter (is_side texts position bound below) numbers)
    → Tells ahead texts (filter (is_side texts position bound (not below)) numbers)
    → Tells (λ text. cond (is_toward position bound below text) (aside text) (ahead text)) texts numbers
divided_tells texts numbers position bound below aside ahead aside_tells ahead_tells =
    record {
      found = λ text a i at is.
          led (λ leaf. slice_get texts leaf.number ≡ Some text) texts numbers position bound below aside ahead text a i at is
          (λ b there. aside_tells.found text b i there is)
          (λ b there. ahead_tells.found text b i there is);
      only = λ text a i at is.
          led (λ leaf. leaf.only ≡ true → i ≡ leaf.number) texts numbers position bound below aside ahead text a i at is
          (λ b there. aside_tells.only text b i there is)
          (λ b there. ahead_tells.only text b i there is);
    }

-- ---- what leads alike tells alike
pub tells_alike : (f g : Text → Leaf) (texts : List Text) (numbers : List ℕ) → ((text : Text) → f text ≡ g text) → Tells g texts numbers → Tells f texts numbers
tells_alike f g texts numbers alike tells =
    record {
      found = λ text a i at is. subst (λ leaf. slice_get texts leaf.number ≡ Some text) (sym (alike text)) (tells.found text a i at is);
      only = λ text a i at is. subst (λ leaf. leaf.only ≡ true → i ≡ leaf.number) (sym (alike text)) (tells.only text a i at is);
    }

-- ---- turns
-- where what stands behind the turns tells the texts of the numbers that are left, the turns tell those of all
pub record TurnsTell (turns : List Turn) (asides : List Tree) (texts : List Text) (left numbers : List ℕ) : Type 0 where
  pub even : length turns ≡ length asides
  pub tell : (leads : Text → Leaf) → Tells leads texts left → Tells (λ text. turned turns (map leaf_of asides) text (leads text)) texts numbers

turned-push : (turns : List Turn) (asides : List Tree) (turn : Turn) (aside : Tree) (text : Text) (end : Leaf) → length turns ≡ length asides
    → turned (turns ++ turn ∷ []) (map leaf_of (asides ++ aside ∷ [])) text end
    ≡ turned turns (map leaf_of asides) text (cond (goes_aside turn text) (leaf_of aside text) end)
turned-push [] [] turn aside text end even = refl
turned-push [] (a ∷ more) turn aside text end even = cc
turned-push (t ∷ ts) [] turn aside text end even = cc
turned-push (t ∷ ts) (a ∷ more) turn aside text end even =
    ap (λ after. cond (goes_aside t text) (leaf_of a text) after) (turned-push ts more turn aside text end (omega arith))

pub more_turns_tell : (turns : List Turn) (asides : List Tree) (turn : Turn) (aside : Tree) (texts : List Text) (left ahead numbers : List ℕ)
    → TurnsTell turns asides texts left numbers
    → Tells (leaf_of aside) texts (filter (is_side texts turn.position turn.bound turn.is_below) left)
    → ahead ≡ filter (is_side texts turn.position turn.bound (not turn.is_below)) left
    → TurnsTell (turns ++ turn ∷ []) (asides ++ aside ∷ []) texts ahead numbers
more_turns_tell turns asides turn aside texts left ahead numbers before aside_tells are =
    record {
      even = omega (arith, before.even, length-append turns (turn ∷ []), length-append asides (aside ∷ []));
      tell = λ leads tells.
          tells_alike (λ text. turned (turns ++ turn ∷ []) (map leaf_of (asides ++ aside ∷ [])) text (leads text))
          (λ text. turned turns (map leaf_of asides) text (cond (goes_aside turn text) (leaf_of aside text) (leads text))) texts numbers
          (λ text. turned-push turns asides turn aside text (leads text) before.even)
          (before.tell (λ text. cond (goes_aside turn text) (leaf_of aside text) (leads text))
          (divided_tells texts left turn.position turn.bound turn.is_below (leaf_of aside) leads aside_tells
          (subst (λ ns. Tells leads texts ns) are tells)));
    }

-- ---- the first turn that leads a text aside
shifted : (p : Turn → Bool) (i : ℕ) (turns : List Turn) → position_from p (i + 1) turns ≡ option_map (λ k. suc k) (position_from p i turns)
shifted p i [] = refl
shifted p i (t ∷ ts) =
    let next : i + 1 ≡ suc i = omega arith in
    elim (p t) as (λ b. cond b (Some (i + 1)) (position_from p ((i + 1) + 1) ts) ≡ option_map (λ k. suc k) (cond b (Some i) (position_from p (i + 1) ts)))
    [ true ↦ ap Some next | false ↦ shifted p (i + 1) ts ]

nowhere : (o : Option ℕ) → option_and_then (slice_get {X = Text → Leaf} []) o ≡ None
nowhere None = refl
nowhere (Some k) = refl

behind : (aside : Text → Leaf) (asides : List (Text → Leaf)) (o : Option ℕ) → option_and_then (slice_get (aside ∷ asides)) (option_map (λ k. suc k) o) ≡ option_and_then (slice_get asides) o
behind aside asides None = refl
behind aside asides (Some k) = refl

pub turned_at : (turns : List Turn) (asides : List (Text → Leaf)) (text : Text) (end : Leaf)
    → turned turns asides text end
    ≡ option_map_or (λ aside. aside text) (option_and_then (slice_get asides) (position_from (λ turn. goes_aside turn text) 0 turns)) end
turned_at [] asides text end = refl
turned_at (t ∷ ts) [] text end =
    ap (λ o. option_map_or (λ aside. aside text) o end) (sym (nowhere (position_from (λ turn. goes_aside turn text) 0 (t ∷ ts))))
turned_at (t ∷ ts) (a ∷ more) text end =
    let later : turned ts more text end ≡ option_map_or (λ aside. aside text) (option_and_then (slice_get (a ∷ more)) (position_from (λ turn. goes_aside turn text) (0 + 1) ts)) end =
    turned_at ts more text end
    ∙ ap (λ o. option_map_or (λ aside. aside text) o end)
    (sym (ap (option_and_then (slice_get (a ∷ more))) (shifted (λ turn. goes_aside turn text) 0 ts) ∙ behind a more (position_from (λ turn. goes_aside turn text) 0 ts))) in
    elim (goes_aside t text) as (λ b. cond b (a text) (turned ts more text end)
    ≡ option_map_or (λ aside. aside text) (option_and_then (slice_get (a ∷ more)) (cond b (Some 0) (position_from (λ turn. goes_aside turn text) (0 + 1) ts))) end)
    [ true ↦ refl | false ↦ later ]
