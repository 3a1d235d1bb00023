-- Laws of the names that begin with `$`: where they stand in byte order, which marks they have, and that they don't annotate.
use Rattle.std.proofs.Common.{◌≡◌, ◌<◌, ◌*◌, ◌^◌, ◌%◌, ◌&&◌, ◌||◌, not, ℕ, List, [], ◌∷◌, ◌++◌, Bool, true, false, Option, Some, None, is_some, cond, inl, inr, map, filter, length, max, codes, refl, sym, ap, ◌∙◌, arith}
use Rattle.std.specs.Prelude.{◌==◌}
use Rattle.std.specs.Cmp.Lexicographic.{slice_cmp}
use Rattle.std.specs.Int.{bit_at}
use Rattle.std.specs.Int.RustNames.{bit_or}
use Rattle.std.specs.List.{AllByRecursion, list_all, list_any}
use Rattle.std.specs.Ordering.{is_lt, nat_cmp, ordering_then}
use Rattle.std.specs.declared.cmp.Ordering.TheVariants.{Equal, Greater}
use Rattle.std.proofs.lemmas.Bool.{and_parts, cases_lt, le-ltb, lt-ltb}
use Rattle.std.proofs.lemmas.Bool.Decides.{Decides-eqb}
use Rattle.std.proofs.lemmas.List.{map-append}
use Rattle.std.proofs.lemmas.List.Elements.{filter-append}
use Rattle.std.proofs.lemmas.List.Folds.{list_any-append}
use Rattle.std.proofs.lemmas.Nat.Bits.{bit_at_or}
use Rattle.definitions.specs.Values.{Text, Value, get, is_string, same_text}
use Rattle.definitions.specs.Applied.{Application}
use Rattle.definitions.specs.Evaluated.{is_annotation}
use Rattle.definitions.specs.Keywords.{Keyword, is_keyword_of, keyword_named, keywords}
use Rattle.definitions.specs.Outcomes.{unit}
use Rattle.definitions.specs.Uris.{begins}
use Rattle.definition_laws.proofs.Occurrences.{found_passes}
use Rattle.lemmas.proofs.Texts.{same_text_differs, same_text_is}
use Rattle.json_doc.specs.Members.{is_below, AreBelow, AreNotBelow}
use Rattle.keywords.specs.Groups.{group_number, groups_before, in_order}
use Rattle.keywords.specs.Rows.{row_named, row_of}
use Rattle.keywords.specs.declared.keyword.Keyword.TheVariants.{Defs, DynamicRef, Ref}
use Rattle.evaluator.specs.Annotations.{annotations_among}
use Rattle.evaluator.specs.Presents.{has_mark, mark_of}
use Rattle.evaluator.proofs.PresentLaws.{mark_of_others}

true_false : {A : Type 0} (b : Bool) → b ≡ true → b ≡ false → A
true_false b e f = let both : true ≡ false = sym e ∙ f in absurd (cc)

-- ---- where they stand in byte order
not_below_dollar : (rest : Text) → is_below (36 ∷ rest) (codes "$") ≡ false
not_below_dollar [] = refl
not_below_dollar (c ∷ cs) = refl

first_below : (c : ℕ) (rest : Text) → c < 36 → is_below (c ∷ rest) (codes "$") ≡ true
first_below c rest less = rw (lt-ltb c 36 less) refl

no_less : (b : Bool) (rest : Text) → is_lt (ordering_then (cond b Equal Greater) (slice_cmp nat_cmp rest [])) ≡ false
no_less true [] = refl
no_less true (c ∷ cs) = refl
no_less false rest = refl

first_after : (c : ℕ) (rest : Text) → 36 < c → is_below (c ∷ rest) (codes "%") ≡ false
first_after c rest more = rw (le-ltb c 37 (omega (arith, more))) (no_less (c == 37) rest)

first_differs : (c : ℕ) (rest : Text) → (c ≡ 36 → ⊥) → begins (c ∷ rest) (codes "$") ≡ false
first_differs c rest other = by (36 == c) refl
  where
    by : (b : Bool) → (36 == c) ≡ b → begins (c ∷ rest) (codes "$") ≡ false
    by true e = absurd (other (sym ((Decides-eqb 36 c).0 e)))
    by false e = rw e refl

before_dollar : (name : Text) → is_below name (codes "$") ≡ true → begins name (codes "$") ≡ false
before_dollar [] e = refl
before_dollar (c ∷ cs) e = first_differs c cs (λ same. true_false (is_below (c ∷ cs) (codes "$")) e (ap (λ d. is_below (d ∷ cs) (codes "$")) same ∙ not_below_dollar cs))

after_dollar : (name : Text) → is_below name (codes "%") ≡ false → begins name (codes "$") ≡ false
after_dollar [] e = refl
after_dollar (c ∷ cs) e = first_differs c cs (λ same. true_false (is_below (c ∷ cs) (codes "%")) (ap (λ d. is_below (d ∷ cs) (codes "%")) same) e)

at_dollar : (name : Text) → is_below name (codes "$") ≡ false → is_below name (codes "%") ≡ true → begins name (codes "$") ≡ true
at_dollar [] e f = absurd (cc)
at_dollar (c ∷ cs) e f = elim (cases_lt c 36) [
  | inl less ↦ true_false (is_below (c ∷ cs) (codes "$")) (first_below c cs less) e
  | inr from ↦ elim (cases_lt 36 c) [
    | inl more ↦ true_false (is_below (c ∷ cs) (codes "%")) f (first_after c cs more)
    | inr to ↦ let same : c ≡ 36 = omega (arith, from, to) in ap (λ d. begins (d ∷ cs) (codes "$")) same
  ]
]

abbrev BeginWithDollar : Bool → List (Text × Value) → Type 0
BeginWithDollar b ms = AllByRecursion (λ m. begins m.0 (codes "$") ≡ b) ms

pub are_before_dollar : (ms : List (Text × Value)) → AreBelow (codes "$") ms → BeginWithDollar false ms
are_before_dollar [] below = tt
are_before_dollar (m ∷ ms) below = (before_dollar m.0 below.0, are_before_dollar ms below.1)

pub are_after_dollar : (ms : List (Text × Value)) → AreNotBelow (codes "%") ms → BeginWithDollar false ms
are_after_dollar [] above = tt
are_after_dollar (m ∷ ms) above = (after_dollar m.0 above.0, are_after_dollar ms above.1)

pub are_at_dollar : (ms : List (Text × Value)) → AreNotBelow (codes "$") ms → AreBelow (codes "%") ms → BeginWithDollar true ms
are_at_dollar [] above below = tt
are_at_dollar (m ∷ ms) above below = (at_dollar m.0 above.0 below.0, are_at_dollar ms above.1 below.1)

-- ---- their marks
abbrev bit_of : ℕ → ℕ
bit_of mark = 1 * 2 ^ mark % 2 ^ 64

abbrev their_marks : ℕ
their_marks = bit_or (bit_or (bit_or (bit_of 0) (bit_of 1)) (bit_of (length in_order))) (bit_of 63)

abbrev is_marked : Keyword → Bool
is_marked k = not (begins k.name (codes "$")) || (bit_at their_marks (mark_of k.name) == 1)

all_marked : list_all is_marked keywords ≡ true
unfolding mark_of group_number groups_before in_order
all_marked = refl

found_first : (p : Keyword → Bool) (b : Bool) (j k : Keyword) (later : Option Keyword) → cond b (Some j) later ≡ Some k → p j ≡ true → (later ≡ Some k → p k ≡ true) → p k ≡ true
found_first p true j k later found first rest = let same : j ≡ k = cc in ap p (sym same) ∙ first
found_first p false j k later found first rest = rest found

found_in : (p : Keyword → Bool) (name : Text) (ks : List Keyword) (k : Keyword) → list_all p ks ≡ true → keyword_named name ks ≡ Some k → p k ≡ true
found_in p name [] k all found = absurd (cc)
found_in p name (j ∷ ks) k all found =
    let parts = and_parts (p j) (list_all p ks) all in
    found_first p (same_text name j.name) j k (keyword_named name ks) found parts.0 (λ later. found_in p name ks k parts.1 later)

second : (a b : Bool) → (not a || b) ≡ true → a ≡ true → b ≡ true
second true b e f = e
second false b e f = absurd (cc)

their_mark : (name : Text) (o : Option Keyword) → keyword_named name keywords ≡ o → begins name (codes "$") ≡ true → bit_at their_marks (mark_of name) ≡ 1
unfolding row_named in_order
their_mark name None e begin = ap (bit_at their_marks) (sym (mark_of_others name None refl (sym e)))
their_mark name (Some k) e begin =
    let same : name ≡ k.name = same_text_is name k.name (found_passes (λ (r : Keyword). same_text name r.name) keywords k e) in
    let bit = second (begins k.name (codes "$")) (bit_at their_marks (mark_of k.name) == 1) (found_in is_marked name keywords k all_marked e) (ap (λ n. begins n (codes "$")) (sym same) ∙ begin) in
    ap (λ n. bit_at their_marks (mark_of n)) same ∙ (Decides-eqb (bit_at their_marks (mark_of k.name)) 1).0 bit

their_bits : (i j k : ℕ) → i ≡ mark_of (row_of Ref).name → j ≡ mark_of (row_of DynamicRef).name → k ≡ mark_of (row_of Defs).name
    → bit_or (bit_or (bit_or (bit_of i) (bit_of j)) (bit_of k)) (2 ^ 63) ≡ their_marks
unfolding mark_of group_number groups_before in_order
their_bits i j k e f h = rw (e, f, h) refl

pub marks_of_dollar : (i j k : ℕ) → i ≡ mark_of (row_of Ref).name → j ≡ mark_of (row_of DynamicRef).name → k ≡ mark_of (row_of Defs).name
    → (name : Text) → begins name (codes "$") ≡ true → bit_at (bit_or (bit_or (bit_or (bit_of i) (bit_of j)) (bit_of k)) (2 ^ 63)) (mark_of name) ≡ 1
marks_of_dollar i j k e f h name begin = ap (λ bits. bit_at bits (mark_of name)) (their_bits i j k e f h) ∙ their_mark name (keyword_named name keywords) refl begin

-- the members cut before and after theirs, and the bits of the parts
abbrev AreMarkedIn : ℕ → ℕ → List (Text × Value) → Type 0
AreMarkedIn marks i ms = bit_at marks i ≡ 0 → list_any (has_mark i) ms ≡ false

marked_elsewhere : (marks mark i : ℕ) → bit_at marks mark ≡ 1 → bit_at marks i ≡ 0 → (b : Bool) → (mark == i) ≡ b → (mark == i) ≡ false
marked_elsewhere marks mark i set unset true e =
    let there : bit_at marks i ≡ 1 = ap (bit_at marks) (sym ((Decides-eqb mark i).0 e)) ∙ set in
    let both : 0 ≡ 1 = sym unset ∙ there in
    absurd (omega (arith, both))
marked_elsewhere marks mark i set unset false e = e

pub dollars_marked : (marks i : ℕ) (ms : List (Text × Value)) → ((name : Text) → begins name (codes "$") ≡ true → bit_at marks (mark_of name) ≡ 1) → BeginWithDollar true ms
    → AreMarkedIn marks i ms
dollars_marked marks i [] known all unset = refl
dollars_marked marks i (m ∷ ms) known all unset =
    rw (marked_elsewhere marks (mark_of m.0) i (known m.0 all.0) unset (mark_of m.0 == i) refl) (dollars_marked marks i ms known all.1 unset)

pub all_in_parts : (x y z i : ℕ) (bs ws cs ms : List (Text × Value)) → bs ++ (ws ++ cs) ≡ ms → AreMarkedIn x i bs → AreMarkedIn y i ws → AreMarkedIn z i cs
    → AreMarkedIn (bit_or (bit_or x y) z) i ms
all_in_parts x y z i bs ws cs ms parts first second third unset =
    let zero : max (max (bit_at x i) (bit_at y i)) (bit_at z i) ≡ 0 = ap (λ n. max n (bit_at z i)) (sym (bit_at_or x y i)) ∙ sym (bit_at_or (bit_or x y) z i) ∙ unset in
    ap (list_any (has_mark i)) (sym parts) ∙ list_any-append (has_mark i) bs (ws ++ cs) ∙ ap (λ b. list_any (has_mark i) bs || b) (list_any-append (has_mark i) ws cs)
    ∙ rw (first (omega (arith, zero)), second (omega (arith, zero)), third (omega (arith, zero))) refl

-- ---- they don't annotate
unlike : (name other : Text) → begins name (codes "$") ≡ true → begins other (codes "$") ≡ false → same_text name other ≡ false
unlike name other e f = same_text_differs name other (λ same. true_false (begins other (codes "$")) (ap (λ n. begins n (codes "$")) (sym same) ∙ e) f)

fell : (p q r w g s t : Bool) → p ≡ false → q ≡ false → r ≡ false → g ≡ true → cond p s (cond (q || (r || false)) t (not (w || g))) ≡ false
fell p q r true g s t e f h k = rw (e, f, h) refl
fell p q r false g s t e f h k = rw (e, f, h, k) refl

annotates_not : (s x : Value) (name : Text) → begins name (codes "$") ≡ true → is_annotation s x name ≡ false
annotates_not s x name e =
    fell (same_text name (codes "contentSchema")) (same_text name (codes "contentEncoding")) (same_text name (codes "contentMediaType")) (is_keyword_of keywords name) (begins name (codes "$"))
    (is_string x && is_some (get (codes "contentMediaType") s)) (is_string x)
    (unlike name (codes "contentSchema") e refl) (unlike name (codes "contentEncoding") e refl) (unlike name (codes "contentMediaType") e refl) e

none_annotates : (a : Application) (ms : List (Text × Value)) → BeginWithDollar true ms → annotations_among a ms ≡ []
none_annotates a [] all = refl
none_annotates a (m ∷ ms) all = rw (annotates_not a.schema.value a.instance m.0 all.0) (none_annotates a ms all.1)

among_both : (a : Application) (ms ns : List (Text × Value)) → annotations_among a (ms ++ ns) ≡ annotations_among a ms ++ annotations_among a ns
among_both a ms ns =
    let p = λ (m : Text × Value). is_annotation a.schema.value a.instance m.0 in
    ap (map (λ (m : Text × Value). unit a m.0 m.1)) (filter-append p ms ns) ∙ map-append (λ (m : Text × Value). unit a m.0 m.1) (filter p ms) (filter p ns)

pub annotations_around : (a : Application) (bs ws cs ms : List (Text × Value)) → bs ++ (ws ++ cs) ≡ ms → BeginWithDollar true ws
    → annotations_among a bs ++ annotations_among a cs ≡ annotations_among a ms
annotations_around a bs ws cs ms parts all =
    ap (λ us. annotations_among a bs ++ (us ++ annotations_among a cs)) (sym (none_annotates a ws all)) ∙ ap (λ us. annotations_among a bs ++ us) (sym (among_both a ws cs))
    ∙ sym (among_both a bs (ws ++ cs)) ∙ ap (annotations_among a) parts
