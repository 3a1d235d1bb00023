-- The queue of a table: its numbers are those of some of the sockets, each once, so that there is room for one more.
use Rattle.std.proofs.Common.{◌≡◌, ◌≢◌, ◌<◌, ◌++◌, ◌∷◌, [], ℕ, List, Bool, true, false, ◌||◌, not, Some, None, Option, option_map, is_some, length, refl, sym, ◌∙◌, ap, arith, length-append}
use Rattle.std.specs.List.{IsDistinct, list_any, AllByRecursion}
use Rattle.std.specs.Ordering.{nat_cmp, eq_by_cmp}
use Rattle.std.specs.BTreeMap.{BTreeMap, get, btree_map_len}
use Rattle.std.specs.Cmp.{IsEquivalence}
use Rattle.std.proofs.lemmas.Cmp.{eq_by_cmp_equiv, nat_cmp_total}
use Rattle.std.proofs.lemmas.Map.Keys.{IsDistinct-push}
use Rattle.std.proofs.lemmas.Map.Steps.{length-le_from_keys}
use Rattle.std.proofs.lemmas.List.Folds.{list_any-append}
use Rattle.sockets.specs.declared.socket.Socket.{Socket}
use Rattle.sockets.specs.Socket.{is_queued, is_unqueued, as_queued, as_told}
use Rattle.std.proofs.lemmas.Grind.{common_steps}

abbrev pub same : ℕ → ℕ → Bool
same = eq_by_cmp nat_cmp

pub laws : IsEquivalence same
laws = eq_by_cmp_equiv nat_cmp_total

-- a number stands in the queue where its socket says so
abbrev pub Stand : BTreeMap ℕ Socket → List ℕ → Type 0
Stand m q = (k : ℕ) → list_any (same k) q ≡ is_queued (get nat_cmp m k)

pub none_distinct : IsDistinct same []
unfolding IsDistinct
none_distinct = tt

some_from_queued : (o : Option Socket) → is_queued o ≡ true → is_some o ≡ true
some_from_queued None e = cc
some_from_queued (Some s) e = refl

some_from_unqueued : (o : Option Socket) → is_unqueued o ≡ true → is_some o ≡ true
some_from_unqueued None e = cc
some_from_unqueued (Some s) e = refl

not_queued : (o : Option Socket) → is_unqueued o ≡ true → is_queued o ≡ false
not_queued None e = refl
not_queued (Some s) e = by s.is_queued e
  where
    by : (b : Bool) → not b ≡ true → b ≡ false
    by true e = cc
    by false e = refl

pub same_is : (j k : ℕ) → same j k ≡ true → j ≡ k
same_is j k e = grind (arith, common_steps)

-- each number of a queue, and one more, is that of a socket
stand_with : (m : BTreeMap ℕ Socket) (q : List ℕ) (k : ℕ) → Stand m q → is_unqueued (get nat_cmp m k) ≡ true → (j : ℕ) → list_any (same j) (q ++ k ∷ []) ≡ true → is_some (get nat_cmp m j) ≡ true
stand_with m q k stand free j h = by (list_any (same j) q) refl (same j k) refl (sym (list_any-append (same j) q (k ∷ [])) ∙ h)
  where
    by : (a : Bool) → list_any (same j) q ≡ a → (b : Bool) → same j k ≡ b → (a || (b || false)) ≡ true → is_some (get nat_cmp m j) ≡ true
    by true e b f g = some_from_queued (get nat_cmp m j) (sym (stand j) ∙ e)
    by false e true f g = rw (same_is j k f) (some_from_unqueued (get nat_cmp m k) free)
    by false e false f g = cc

-- a socket that doesn't stand in the queue has its place there
pub has_room : (m : BTreeMap ℕ Socket) (q : List ℕ) (k : ℕ) → IsDistinct same q → Stand m q → is_unqueued (get nat_cmp m k) ≡ true → length q < btree_map_len m
has_room m q k distinct stand free =
    let apart : list_any (same k) q ≡ false = stand k ∙ not_queued (get nat_cmp m k) free in
    let long = length-le_from_keys laws (q ++ k ∷ []) m.entries (IsDistinct-push laws q k distinct apart) (stand_with m q k stand free) in
    omega (arith, long, length-append q (k ∷ []))

-- .. and stands there then
pub push_distinct : (m : BTreeMap ℕ Socket) (q : List ℕ) (k : ℕ) → IsDistinct same q → Stand m q → is_unqueued (get nat_cmp m k) ≡ true → IsDistinct same (q ++ k ∷ [])
push_distinct m q k distinct stand free = IsDistinct-push laws q k distinct (stand k ∙ not_queued (get nat_cmp m k) free)

queued_then : (o : Option Socket) → is_unqueued o ≡ true → is_queued (option_map as_queued o) ≡ true
queued_then None e = cc
queued_then (Some s) e = refl

told_then : (o : Option Socket) → is_queued (option_map as_told o) ≡ false
told_then None = refl
told_then (Some s) = refl

pub apart_from_same : (j k : ℕ) → same j k ≡ false → j ≢ k
apart_from_same j k e = grind (arith, common_steps)

or_true : (b : Bool) → (b || true) ≡ true
or_true true = refl
or_true false = refl

or_false : (b : Bool) → (b || false) ≡ b
or_false true = refl
or_false false = refl

none_from_apart : (k : ℕ) (q : List ℕ) → AllByRecursion (λ y. same k y ≡ false) q → list_any (same k) q ≡ false
none_from_apart k [] h = refl
none_from_apart k (x ∷ q) h = rw h.0 (none_from_apart k q h.1)

head_apart : (k : ℕ) (q : List ℕ) → IsDistinct same (k ∷ q) → list_any (same k) q ≡ false
unfolding IsDistinct
head_apart k q distinct = none_from_apart k q distinct.0

pub pop_distinct : (k : ℕ) (q : List ℕ) → IsDistinct same (k ∷ q) → IsDistinct same q
unfolding IsDistinct
pop_distinct k q distinct = distinct.1

-- numbers that weren't given stay free where one socket changes
pub stay_free : (m n : BTreeMap ℕ Socket) (k j : ℕ) (f : Socket → Socket) → get nat_cmp m j ≡ None → get nat_cmp n k ≡ option_map f (get nat_cmp m k) → ((i : ℕ) → i ≢ k → get nat_cmp n i ≡ get nat_cmp m i) → get nat_cmp n j ≡ None
stay_free m n k j f free marked others = by (same j k) refl
  where
    by : (b : Bool) → same j k ≡ b → get nat_cmp n j ≡ None
    by true e =
        let is : k ≡ j = sym (same_is j k e) in
        let at : get nat_cmp n j ≡ option_map f (get nat_cmp m j) = rw is at marked in
        at ∙ rw free refl
    by false e = others j (apart_from_same j k e) ∙ free

-- the queue and the sockets agree when a socket is put at its end
pub push_stand : (m n : BTreeMap ℕ Socket) (q : List ℕ) (k : ℕ) → Stand m q → is_unqueued (get nat_cmp m k) ≡ true → get nat_cmp n k ≡ option_map as_queued (get nat_cmp m k) → ((j : ℕ) → j ≢ k → get nat_cmp n j ≡ get nat_cmp m j) → Stand n (q ++ k ∷ [])
push_stand m n q k stand free marked others j = by (same j k) refl
  where
    by : (b : Bool) → same j k ≡ b → list_any (same j) (q ++ k ∷ []) ≡ is_queued (get nat_cmp n j)
    by true e =
        let is : j ≡ k = same_is j k e in
        let left : list_any (same j) (q ++ k ∷ []) ≡ true = list_any-append (same j) q (k ∷ []) ∙ (rw e (or_true (list_any (same j) q))) in
        let right : is_queued (get nat_cmp n j) ≡ true = rw (is, marked) (queued_then (get nat_cmp m k) free) in
        left ∙ sym right
    by false e =
        let left : list_any (same j) (q ++ k ∷ []) ≡ list_any (same j) q = list_any-append (same j) q (k ∷ []) ∙ (rw e (or_false (list_any (same j) q))) in
        left ∙ stand j ∙ sym (ap is_queued (others j (apart_from_same j k e)))

-- .. and when the first is taken out
pub pop_stand : (m n : BTreeMap ℕ Socket) (k : ℕ) (q : List ℕ) → IsDistinct same (k ∷ q) → Stand m (k ∷ q) → get nat_cmp n k ≡ option_map as_told (get nat_cmp m k) → ((j : ℕ) → j ≢ k → get nat_cmp n j ≡ get nat_cmp m j) → Stand n q
pop_stand m n k q distinct stand marked others j = by (same j k) refl
  where
    by : (b : Bool) → same j k ≡ b → list_any (same j) q ≡ is_queued (get nat_cmp n j)
    by true e =
        let is : j ≡ k = same_is j k e in
        let left : list_any (same k) q ≡ false = head_apart k q distinct in
        let right : is_queued (get nat_cmp n k) ≡ false = rw marked (told_then (get nat_cmp m k)) in
        rw is (left ∙ sym right)
    by false e =
        let left : list_any (same j) q ≡ list_any (same j) (k ∷ q) = rw e refl in
        left ∙ stand j ∙ sym (ap is_queued (others j (apart_from_same j k e)))
