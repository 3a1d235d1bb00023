-- The order of units that were put one after the other, and their texts in it.
use Rattle.std.proofs.Common.{◌≡◌, ◌≤◌, ◌<◌, ◌+◌, ◌++◌, ◌∷◌, [], ℕ, zero, suc, List, true, length, map, nat_le, slice_index_or, take, drop, inl, inr, refl, sym, ap, ap₂, ◌∙◌, arith}
use Rattle.std.proofs.Math.ListN.{get_or-append}
use Rattle.std.proofs.Math.Seq.{get_or-append_seam}
use Rattle.std.proofs.lemmas.Bool.{and_parts, cases_lt, leb-true}
use Rattle.std.proofs.lemmas.List.{length-take-le, take_all}
use Rattle.std.proofs.lemmas.List.Elements.{All-append, All-cons, All-drop, All-head, All-nil, All-tail, All-take, All-weaker}
use Rattle.std.specs.List.{All, insert, list_all}
use Rattle.lemmas.proofs.Lists.{map-insert}
use Rattle.definitions.specs.Values.{Text}
use Rattle.basic_output.specs.Spans.{order_from, order_of, span_text, text_at}
use Rattle.basic_output.specs.declared.units.Span.{Span}

abbrev Below : ℕ → List ℕ → Type 0
Below n order = All (λ i. i < n) order

pub below_more : (n m : ℕ) (order : List ℕ) → n ≤ m → Below n order → Below m order
below_more n m order le h = All-weaker (λ i. i < n) (λ i. i < m) (λ i less. omega (arith, less, le)) order h

-- ---- one more place
pub below_put : (n p : ℕ) (order : List ℕ) → Below n order → Below (suc n) (insert order p n)
below_put n p order h =
    let more = below_more n (suc n) order (omega arith) h in
    All-append (λ i. i < suc n) (take p order) (n ∷ drop p order) (All-take (λ i. i < suc n) p order more)
    (All-cons (λ i. i < suc n) n (drop p order) (omega arith) (All-drop (λ i. i < suc n) p order more))

pub order_on : (n : ℕ) (order : List ℕ) (ss : List Span) (s : Span) → order_from n order (ss ++ s ∷ []) ≡ insert (order_from n order ss) s.position (n + length ss)
order_on n order [] s = ap (insert order s.position) (omega arith)
order_on n order (x ∷ ss) s = order_on (suc n) (insert order x.position n) ss s ∙ ap (insert (order_from (suc n) (insert order x.position n) ss) s.position) (omega arith)

put_length : (p n : ℕ) (order : List ℕ) → length (insert order p n) ≡ suc (length order)
put_length zero n order = refl
put_length (suc p) n [] = refl
put_length (suc p) n (i ∷ order) = ap suc (put_length p n order)

pub order_length : (n : ℕ) (order : List ℕ) (ss : List Span) → length (order_from n order ss) ≡ length order + length ss
order_length n order [] = omega arith
order_length n order (s ∷ ss) = order_length (suc n) (insert order s.position n) ss ∙ omega (arith, put_length s.position n order)

pub order_below : (n : ℕ) (order : List ℕ) (ss : List Span) → Below n order → Below (n + length ss) (order_from n order ss)
order_below n order [] h = below_more n (n + 0) order (omega arith) h
order_below n order (s ∷ ss) h =
    below_more (suc n + length ss) (n + suc (length ss)) (order_from (suc n) (insert order s.position n) ss) (omega arith)
    (order_below (suc n) (insert order s.position n) ss (below_put n s.position order h))

-- ---- what stays in front
take_put : (m p n : ℕ) (order : List ℕ) → m ≤ p → m ≤ length order → take m (insert order p n) ≡ take m order
take_put zero p n order le long = refl
take_put (suc m) zero n order le long = absurd (omega arith)
take_put (suc m) (suc p) n [] le long = absurd (omega arith)
take_put (suc m) (suc p) n (i ∷ order) le long = ap (λ xs. i ∷ xs) (take_put m p n order (omega arith) (omega arith))

take_order : (m n : ℕ) (order : List ℕ) (ss : List Span) → m ≤ length order → list_all (λ s. nat_le m s.position) ss ≡ true → take m (order_from n order ss) ≡ take m order
take_order m n order [] long behind = refl
take_order m n order (s ∷ ss) long behind =
    let q = and_parts (nat_le m s.position) (list_all (λ (x : Span). nat_le m x.position) ss) behind in
    take_order m (suc n) (insert order s.position n) ss (omega (arith, long, put_length s.position n order)) q.1 ∙ take_put m s.position n order (leb-true m s.position q.0) long

order_parts : (m n : ℕ) (order : List ℕ) (ss : List Span) → m ≤ length ss → order_from n order ss ≡ order_from (n + m) (order_from n order (take m ss)) (drop m ss)
order_parts zero n order ss le = ap (λ k. order_from k order ss) (omega arith)
order_parts (suc m) n order [] le = absurd (omega arith)
order_parts (suc m) n order (s ∷ ss) le =
    order_parts m (suc n) (insert order s.position n) ss (omega arith)
    ∙ ap (λ k. order_from k (order_from (suc n) (insert order s.position n) (take m ss)) (drop m ss)) (omega arith)

-- where the others were put behind them, the first units are those that were made first
pub front_order : (m : ℕ) (ss : List Span) → list_all (λ s. nat_le m s.position) (drop m ss) ≡ true → take m (order_of ss) ≡ order_of (take m ss)
front_order m ss behind =
    elim (cases_lt m (length ss)) [
      | inl less ↦
          let front = order_of (take m ss) in
          let long : length front ≡ m = order_length 0 [] (take m ss) ∙ (let e : 0 + length (take m ss) ≡ m = omega (arith, length-take-le m ss (omega (arith, less))) in e) in
          ap (take m) (order_parts m 0 [] ss (omega (arith, less))) ∙ take_order m (0 + m) front (drop m ss) (omega (arith, long)) behind ∙ take_all m front (omega (arith, long))
      | inr on ↦
          take_all m (order_of ss) (omega (arith, on, order_length 0 [] ss)) ∙ ap order_of (sym (take_all m ss on))
    ]

pub all_below : (ss : List Span) → Below (length ss) (order_of ss)
all_below ss = below_more (0 + length ss) (length ss) (order_of ss) (omega arith) (order_below 0 [] ss (All-nil (λ i. i < 0)))

-- ---- the texts
pub texts_before : (ts more : List Text) (order : List ℕ) → Below (length ts) order → map (λ i. slice_index_or (ts ++ more) i []) order ≡ map (λ i. slice_index_or ts i []) order
texts_before ts more [] h = refl
texts_before ts more (i ∷ order) h =
    ap₂ (λ x xs. x ∷ xs) (get_or-append ts more [] i (All-head (λ j. j < length ts) i order h)) (texts_before ts more order (All-tail (λ j. j < length ts) i order h))

-- the text of a unit that is put among those that there are
pub texts_put : (ts : List Text) (x : Text) (order : List ℕ) (p : ℕ) → Below (length ts) order
    → map (λ i. slice_index_or (ts ++ x ∷ []) i []) (insert order p (length ts)) ≡ insert (map (λ i. slice_index_or ts i []) order) p x
texts_put ts x order p h =
    map-insert (λ i. slice_index_or (ts ++ x ∷ []) i []) order p (length ts) ∙ ap₂ (λ xs y. insert xs p y) (texts_before ts (x ∷ []) order h) (get_or-append_seam ts x [] [])

pub text_there : (t : Text) (ss : List Span) (i : ℕ) (d : Span) → i < length ss → text_at t ss i ≡ span_text t (slice_index_or ss i d)
text_there t [] i d less = absurd (omega arith)
text_there t (s ∷ ss) zero d less = refl
text_there t (s ∷ ss) (suc i) d less = text_there t ss i d (omega arith)
