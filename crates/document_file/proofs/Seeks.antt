-- The entries with a key stand where a seek for it leads.
use Rattle.std.proofs.Common.{if◌then◌else◌, get_or, Contains, Some, ◌≡◌, Bool, true, false, not, List, [], ◌∷◌, refl, sym, subst, ap, ◌∙◌, Ordering, Less, Equal, Greater, is_lt, is_gt, is_eq, true≢false}
use Rattle.std.proofs.lemmas.Cmp.{tied_itself}
use Rattle.std.specs.Cmp.{both_ways}
use Rattle.std.specs.List.{AllByRecursion}
use Rattle.std.specs.Ordering.{ordering_reverse}
use Rattle.sqlite_value.specs.Order.{Row}
use Rattle.sqlite_value.specs.declared.keys.Order.{Order}
use Rattle.sqlite_value.specs.Keys.{plain, entry_cmp, prefix_cmp}
use Rattle.sqlite_value.proofs.KeyLemmas.{entry_cmp_total}
use Rattle.sqlite_trees.specs.Tree.{from_key, order_of, remove_entry, sought, IsIndex}
use Rattle.sqlite_trees.specs.View.{with_cursor, View}
use Rattle.sqlite_trees.specs.declared.store.Direction.TheVariants.{Forward}
use Rattle.sqlite_trees.proofs.ListLemmas.{filter_all, filter_same, all_weaker}
use Rattle.sqlite_trees.proofs.TreeLemmas.{IsSortedTree, prefix_cmp_follows, sorted_index}
use Rattle.document_file.specs.Entries.{has_key, without_key, HaveOneAt}
use Rattle.document_file.specs.Tables.{HasTable}
use Rattle.document_file.proofs.Members.{is_first, is_later}

neither : (o : Ordering) → (is_lt o ≡ true → ⊥) → (is_gt o ≡ true → ⊥) → is_eq o ≡ true
neither Less lt gt = absurd (lt refl)
neither Equal lt gt = refl
neither Greater lt gt = absurd (gt refl)

tied_not_below : (o : Ordering) → is_eq o ≡ true → is_lt o ≡ true → ⊥
tied_not_below Less h = absurd (true≢false (sym h))
tied_not_below Equal h = λ e. true≢false (sym e)
tied_not_below Greater h = absurd (true≢false (sym h))

tied_not_above : (o : Ordering) → is_eq o ≡ true → is_gt o ≡ true → ⊥
tied_not_above Less h = absurd (true≢false (sym h))
tied_not_above Equal h = λ e. true≢false (sym e)
tied_not_above Greater h = absurd (true≢false (sym h))

tied : (o : Ordering) → is_eq o ≡ true → o ≡ Equal
tied Less h = absurd (true≢false (sym h))
tied Equal h = refl
tied Greater h = absurd (true≢false (sym h))

below_apart : (o : Ordering) → is_lt o ≡ true → is_eq o ≡ false
below_apart Less h = refl
below_apart Equal h = absurd (true≢false (sym h))
below_apart Greater h = refl

above_apart : (o : Ordering) → is_gt o ≡ true → is_eq o ≡ false
above_apart Less h = refl
above_apart Equal h = absurd (true≢false (sym h))
above_apart Greater h = refl

apart_above : (o : Ordering) → is_lt o ≡ false → is_eq o ≡ false → is_gt o ≡ true
apart_above Less h k = absurd (true≢false h)
apart_above Equal h k = absurd (true≢false k)
apart_above Greater h k = refl

-- an entry that equals one with the key has the key
same_key : (key e x : Row) → has_key key e ≡ true → is_eq (entry_cmp plain x e) ≡ true → has_key key x ≡ true
same_key key e x h k =
    let tie = tied _ k in
    let back : is_gt (entry_cmp plain e x) ≡ false = ap is_gt ((entry_cmp_total plain).antisymm e x ∙ ap ordering_reverse tie) in
    neither _
    (λ below. tied_not_below _ h ((prefix_cmp_follows plain key e x back).0 below))
    (λ over. tied_not_above _ h ((prefix_cmp_follows plain key x e (ap is_gt tie)).1 over))

-- ---- an entry that a seek leads to
from_there : (o : Order) (key e : Row) (es left : List Row) → from_key o key es ≡ e ∷ left → Contains es e
from_there o key e [] left h = absurd (cc)
from_there o key e (x ∷ xs) left h = go (is_lt (prefix_cmp o x key)) h (from_there o key e xs left)
  where
    go : (b : Bool) → (if b then from_key o key xs else x ∷ xs) ≡ e ∷ left → (from_key o key xs ≡ e ∷ left → Contains xs e) → Contains (x ∷ xs) e
    go true h more = is_later x e xs (more h)
    go false h more = subst (Contains (x ∷ xs)) (ap (λ (l : List Row). get_or l 0 []) h) (is_first x xs)

-- those that equal it are those with its key, where it alone has the key
alike : (key e : Row) (es : List Row) → has_key key e ≡ true → ((x : Row) → Contains es x → has_key key x ≡ true → x ≡ e)
    → AllByRecursion (λ x. not (is_eq (entry_cmp plain x e)) ≡ not (has_key key x)) es
alike key e [] has one = tt
alike key e (x ∷ xs) has one = (
  ap not (both_ways (is_eq (entry_cmp plain x e)) (has_key key x) (same_key key e x has)
      (λ h. ap (λ y. is_eq (entry_cmp plain y e)) (one x (is_first x xs) h) ∙ ap is_eq (tied_itself (entry_cmp_total plain) e))),
  alike key e xs has (λ y c. one y (is_later x y xs c)),
)

pub drops : (key e : Row) (es left : List Row) → from_key plain key es ≡ e ∷ left → has_key key e ≡ true → HaveOneAt key es
    → remove_entry plain e es ≡ without_key key es
drops key e es left h has one = filter_same _ _ es (alike key e es has (λ x c k. one x e c (from_there plain key e es left h) k has))

-- none has the key, where the first that isn't below it hasn't
abbrev pub IsApart : Row → List Row → Type 0
IsApart key found = (e : Row) (left : List Row) → found ≡ e ∷ left → has_key key e ≡ false

none_has : (key : Row) (es : List Row) → IsSortedTree plain es → IsApart key (from_key plain key es) → AllByRecursion (λ e. not (has_key key e) ≡ true) es
none_has key [] up apart = tt
none_has key (e ∷ es) up apart = go (is_lt (prefix_cmp plain e key)) refl apart (none_has key es up.1)
  where
    go : (b : Bool) → is_lt (prefix_cmp plain e key) ≡ b → IsApart key (from_key plain key (e ∷ es)) → (IsApart key (from_key plain key es) → AllByRecursion (λ x. not (has_key key x) ≡ true) es)
        → AllByRecursion (λ x. not (has_key key x) ≡ true) (e ∷ es)
    go true t apart more = (ap not (below_apart _ t), more (rw t at apart))
    go false t apart more =
        let first : has_key key e ≡ false = (rw t at apart) e es refl in
        let over = apart_above _ t first in
        (ap not first, all_weaker _ (λ x. not (has_key key x) ≡ true) (λ x h. ap not (above_apart _ ((prefix_cmp_follows plain key e x h).1 over))) es up.0)

pub nothing_left : (key : Row) (es : List Row) → IsIndex plain es → IsApart key (from_key plain key es) → without_key key es ≡ es
nothing_left key es up apart = filter_all _ es (none_has key es (sorted_index plain es up) apart)

from_no_key : (o : Order) (es : List Row) → from_key o [] es ≡ es
from_no_key o [] = refl
from_no_key o (e ∷ es) = refl

-- a cursor that was placed by no key has all to give
pub begun : (old new : View) → HasTable old → new ≡ with_cursor old 0 (sought (order_of (old.shape 0)) Forward [] (old.trees 0))
    → (left : List Row) × (new.cursors 0 ≡ Some left) × (new.trees 0 ≡ left)
begun old new table placed =
    (old.trees 0, ap (λ v. v.cursors 0) placed ∙ rw (table, from_no_key plain (old.trees 0)) refl, ap (λ v. v.trees 0) placed)
