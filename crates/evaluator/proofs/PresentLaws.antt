-- Laws of the keywords that a schema object has.
use Rattle.std.proofs.Common.{◌≡◌, ◌≢◌, ◌<◌, ◌≤◌, ◌+◌, ◌-◌, ◌*◌, ◌^◌, ◌%◌, nat_lt, ◌&&◌, ◌||◌, not, ℕ, zero, suc, List, [], ◌∷◌, ◌++◌, Bool, true, false, Option, Some, None, option_map, is_some, append-nil, length, get_or, take, w64, cond, inl, inr, filter, flat_map, codes, refl, sym, ap, ◌∙◌, arith}
use Rattle.std.specs.Prelude.{◌==◌}
use Rattle.std.specs.Int.{bit_at}
use Rattle.std.specs.Int.RustNames.{bit_or}
use Rattle.std.specs.List.{list_all, list_any}
use Rattle.std.proofs.lemmas.Bool.{and_parts, cases_lt, ltb-true, or_parts}
use Rattle.std.proofs.lemmas.List.{take_all}
use Rattle.std.proofs.lemmas.Bool.Decides.{Decides-eqb}
use Rattle.std.proofs.lemmas.Nat.Bits.{bit_at_set_other, bit_at_set_same}
use Rattle.definitions.specs.Values.{Text, Value, entry, get, is_string, members, same_text}
use Rattle.definitions.specs.Keywords.{Keyword, is_keyword_of, keyword_named, keywords}
use Rattle.definitions.specs.Applied.{Application, Outcome, Rules}
use Rattle.definitions.specs.Evaluated.{is_annotation}
use Rattle.definitions.specs.Uris.{begins}
use Rattle.definitions.specs.Outcomes.{Use, other_annotations, uses_of}
use Rattle.definition_laws.proofs.Occurrences.{found_passes}
use Rattle.lemmas.proofs.Texts.{same_text_differs, same_text_is}
use Rattle.linker.specs.declared.linked.Linked.{Linked}
use Rattle.keywords.specs.Rows.{row_named, row_of}
use Rattle.keywords.specs.Groups.{group_number, groups_before, in_order}
use Rattle.keywords.proofs.Grouped.{number_within}
use Rattle.keywords.specs.declared.keyword.Keyword as listed
use Rattle.keyword_plans.specs.ObjectApplications.{linked_rules}
use Rattle.keywords.specs.declared.keyword.Keyword.TheVariants.{ContentSchema, Ref, UnevaluatedItems, UnevaluatedProperties}
use Rattle.evaluator.specs.Groups.{first_groups, rows_of}
use Rattle.evaluator.specs.Presents.{has_mark, mark_of, may_annotate_itself}
use Rattle.evaluator.specs.Rounds.{group_uses, groups_uses, linked_outcome, object_uses, unevaluated_uses}
use Rattle.keywords.specs.declared.group.Group.{Group}
use Rattle.keywords.specs.declared.group.Group.TheVariants.{One}
use Rattle.evaluator.proofs.UseLaws.{flat_same}

-- ---- the marks of names
few : nat_lt (length in_order) 63 ≡ true
unfolding in_order
few = refl

pub number_below : (name : Text) → group_number name < 63
number_below name = omega (arith, number_within name, ltb-true (length in_order) 63 few)

below_last : (b : Bool) (n : ℕ) → n < 63 → cond b 63 n < 64
below_last true n h = omega arith
below_last false n h = omega (arith, h)

pub mark_within : (name : Text) → mark_of name < 64
unfolding mark_of
mark_within name = below_last (may_annotate_itself name) (group_number name) (number_below name)

-- a keyword that doesn't annotate with its own value has the mark of its group
pub mark_of_group : (k : listed.Keyword) → (k ≡ ContentSchema → ⊥) → group_number (row_of k).name ≡ mark_of (row_of k).name
unfolding mark_of group_number groups_before in_order
mark_of_group ContentSchema other = absurd (other refl)
mark_of_group _ other = refl

-- the one that does has the last
pub mark_of_content : (k : listed.Keyword) → k ≡ ContentSchema → 63 ≡ mark_of (row_of k).name
unfolding mark_of
mark_of_content k e = rw e refl

-- the name of a keyword has the mark of the keyword
pub mark_of_named : (name : Text) (k : listed.Keyword) (o : Option listed.Keyword) (n : ℕ) → o ≡ Some k → option_map row_of o ≡ row_named name
    → n ≡ mark_of (row_of k).name → n ≡ mark_of name
unfolding row_named
mark_of_named name k o n e named at =
    let found : keyword_named name keywords ≡ Some (row_of k) = sym named ∙ ap (option_map row_of) e in
    at ∙ ap mark_of (sym (same_text_is name (row_of k).name (found_passes (λ (r : Keyword). same_text name r.name) keywords (row_of k) found)))

last_without : (b : Bool) (o : Option Keyword) (n : ℕ) → o ≡ None → 63 ≡ cond (b || not (is_some o)) 63 n
last_without true o n e = refl
last_without false o n e = rw e refl

-- other names have the last
pub mark_of_others : (name : Text) (o : Option listed.Keyword) → o ≡ None → option_map row_of o ≡ row_named name → 63 ≡ mark_of name
unfolding row_named mark_of
mark_of_others name o e named =
    last_without (same_text name (codes "contentSchema")) (keyword_named name keywords) (group_number name) (sym named ∙ ap (option_map row_of) e)

-- ---- the marks of the members
differs_from : (n i : ℕ) → (n == i) ≡ false → i ≢ n
differs_from n i e same = let yes : (n == i) ≡ true = (Decides-eqb n i).1 (sym same) in let both : true ≡ false = sym yes ∙ e in absurd (cc)

one_more : (b : Bool) (marks : ℕ) (m : Text × Value) (left ms : List (Text × Value)) (i : ℕ) → has_mark i m ≡ b → mark_of m.0 < 64
    → (bit_at marks i ≡ 0 → list_any (has_mark i) (m ∷ left) ≡ false → list_any (has_mark i) ms ≡ false)
    → bit_at (bit_or marks (1 * 2 ^ mark_of m.0 % 2 ^ 64)) i ≡ 0 → list_any (has_mark i) left ≡ false → list_any (has_mark i) ms ≡ false
one_more true marks m left ms i e within found none rest =
    let same : mark_of m.0 ≡ i = (Decides-eqb (mark_of m.0) i).0 e in
    let set : bit_at (bit_or marks (1 * 2 ^ mark_of m.0 % 2 ^ 64)) i ≡ 1 =
    ap (λ j. bit_at (bit_or marks (1 * 2 ^ mark_of m.0 % 2 ^ 64)) j) (sym same) ∙ bit_at_set_same w64 marks (mark_of m.0) within in
    let both : 0 ≡ 1 = sym none ∙ set in absurd (omega (arith, both))
one_more false marks m left ms i e within found none rest =
    found (sym (bit_at_set_other w64 marks (mark_of m.0) within i (differs_from (mark_of m.0) i e)) ∙ none) (rw e rest)

-- the bits so far, and the members that are left
pub marked_on : (marks : ℕ) (m : Text × Value) (left ms : List (Text × Value)) → mark_of m.0 < 64
    → ((i : ℕ) → bit_at marks i ≡ 0 → list_any (has_mark i) (m ∷ left) ≡ false → list_any (has_mark i) ms ≡ false)
    → (i : ℕ) → bit_at (bit_or marks (1 * 2 ^ mark_of m.0 % 2 ^ 64)) i ≡ 0 → list_any (has_mark i) left ≡ false → list_any (has_mark i) ms ≡ false
marked_on marks m left ms within found i = one_more (has_mark i m) marks m left ms i refl within (found i)

-- ---- names that have no mark
pub absent : (name : Text) (i : ℕ) (ms : List (Text × Value)) → mark_of name ≡ i → list_any (has_mark i) ms ≡ false → entry name ms ≡ None
absent name i [] own none = refl
absent name i (m ∷ ms) own none =
    let parts = or_parts (has_mark i m) (list_any (has_mark i) ms) none in
    let other : same_text name m.0 ≡ false = same_text_differs name m.0 (λ e. let yes : has_mark i m ≡ true = (Decides-eqb (mark_of m.0) i).1 (sym (ap mark_of e) ∙ own) in
    let both : true ≡ false = sym yes ∙ parts.0 in absurd (cc)) in
    rw other (absent name i ms own parts.1)

-- ---- a group that isn't there
abbrev are_at : ℕ → List Keyword → Bool
are_at i ks = list_all (λ k. mark_of k.name == i) ks

abbrev are_placed : ℕ → List Group → Bool
are_placed i [] = true
are_placed i (g ∷ gs) = are_at i (rows_of g) && are_placed (suc i) gs

all_placed : are_placed 0 first_groups ≡ true
unfolding first_groups in_order mark_of group_number groups_before
all_placed = refl

placed_at : (gs : List Group) (start i : ℕ) (d : Group) → are_placed start gs ≡ true → i < length gs → are_at (start + i) (rows_of (get_or gs i d)) ≡ true
placed_at [] start i d all h = absurd (omega arith)
placed_at (g ∷ gs) start zero d all h =
    let here : start + 0 ≡ start = omega arith in
    ap (λ n. are_at n (rows_of g)) here ∙ (and_parts (are_at start (rows_of g)) (are_placed (suc start) gs) all).0
placed_at (g ∷ gs) start (suc i) d all h =
    let here : start + suc i ≡ suc start + i = omega arith in
    ap (λ n. are_at n (rows_of (get_or gs i d))) here ∙ placed_at gs (suc start) i d (and_parts (are_at start (rows_of g)) (are_placed (suc start) gs) all).1 (omega arith)

no_uses : (rules : Rules) (run : Application → Outcome) (a : Application) (i : ℕ) (ks : List Keyword) → are_at i ks ≡ true
    → list_any (has_mark i) (members a.schema.value) ≡ false → uses_of rules run ks [] [] a ≡ []
no_uses rules run a i [] all none = refl
no_uses rules run a i (k ∷ ks) all none =
    let parts = and_parts (mark_of k.name == i) (are_at i ks) all in
    let gone : get k.name a.schema.value ≡ None = absent k.name i (members a.schema.value) ((Decides-eqb (mark_of k.name) i).0 parts.0) none in
    rw gone (no_uses rules run a i ks parts.1 none)

-- it does nothing
pub unused_at : (l : Linked) (left : ℕ) (a : Application) (i : ℕ) → i < length first_groups → list_any (has_mark i) (members a.schema.value) ≡ false
    → group_uses l left a (get_or first_groups i (One Ref)) ≡ []
unused_at l left a i within none =
    no_uses (linked_rules l) (linked_outcome l left) a i (rows_of (get_or first_groups i (One Ref)))
    (ap (λ n. are_at n (rows_of (get_or first_groups i (One Ref)))) (let e : i ≡ 0 + i = omega arith in e) ∙ placed_at first_groups 0 i (One Ref) all_placed within) none

-- groups that do nothing may be passed over
flat_passed : {X Y : Type 0} (f : X → List Y) (xs : List X) (d : X) (n i : ℕ) → ((k : ℕ) → i ≤ k → k < i + n → k < length xs → f (get_or xs k d) ≡ [])
    → flat_map f (take i xs) ≡ flat_map f (take (i + n) xs)
flat_passed f xs d zero i none = let e : i ≡ i + 0 = omega arith in ap (λ k. flat_map f (take k xs)) e
flat_passed f xs d (suc n) i none =
    let on : (i + 1) + n ≡ i + suc n = omega arith in
    elim (cases_lt i (length xs)) [
      | inl inside ↦ flat_same f xs i d inside (none i (omega arith) (omega arith) inside)
          ∙ flat_passed f xs d n (i + 1) (λ k less below within. none k (omega arith) (omega arith) within)
          ∙ ap (λ k. flat_map f (take k xs)) on
      | inr past ↦ ap (flat_map f) (take_all i xs past ∙ sym (take_all (i + suc n) xs (omega arith)))
    ]

pub groups_passed : (l : Linked) (left : ℕ) (a : Application) (s : Value) (i j : ℕ) → a.schema.value ≡ s → i ≤ j
    → ((k : ℕ) → i ≤ k → k < j → list_any (has_mark k) (members s) ≡ false)
    → groups_uses l left a (take i first_groups) ≡ groups_uses l left a (take j first_groups)
groups_passed l left a s i j same on none =
    let n = j - i in
    let e : i + n ≡ j = omega arith in
    flat_passed (group_uses l left a) first_groups (One Ref) n i
    (λ k less below within. unused_at l left a k within (ap (λ v. list_any (has_mark k) (members v)) same ∙ none k less (omega (arith, e, below))))
    ∙ ap (λ k. groups_uses l left a (take k first_groups)) e

-- ---- the keywords that look at what others evaluated
abbrev NoneLast : Value → Type 0
NoneLast s = (is_some (get (row_of UnevaluatedItems).name s) || is_some (get (row_of UnevaluatedProperties).name s)) ≡ false

none_from : (o : Option Value) → is_some o ≡ false → o ≡ None
none_from None e = refl
none_from (Some v) e = absurd (cc)

unused_last : (l : Linked) (left : ℕ) (a : Application) (us : List Use) → NoneLast a.schema.value → unevaluated_uses l left a us ≡ []
unused_last l left a us gone =
    let apart = or_parts (is_some (get (row_of UnevaluatedItems).name a.schema.value)) (is_some (get (row_of UnevaluatedProperties).name a.schema.value)) gone in
    let items : get (row_of UnevaluatedItems).name a.schema.value ≡ None = none_from _ apart.0 in
    let properties : get (row_of UnevaluatedProperties).name a.schema.value ≡ None = none_from _ apart.1 in
    rw (items, properties) refl

pub groups_alone : (l : Linked) (left : ℕ) (a : Application) (s : Value) → a.schema.value ≡ s → NoneLast s → groups_uses l left a first_groups ≡ object_uses l left a
unfolding object_uses
groups_alone l left a s same gone =
    let us = groups_uses l left a first_groups in
    sym (ap (λ vs. us ++ vs) (unused_last l left a us (ap (λ v. is_some (get (row_of UnevaluatedItems).name v) || is_some (get (row_of UnevaluatedProperties).name v)) same ∙ gone)) ∙ append-nil us)

-- ---- names that annotate
not_last : (b : Bool) (o : Option Keyword) (n : ℕ) → (cond (b || not (is_some o)) 63 n == 63) ≡ false → (b ≡ false) × (is_some o ≡ true)
not_last true o n e = absurd (cc)
not_last false (Some k) n e = (refl, refl)
not_last false None n e = absurd (cc)

-- a name of another mark is a keyword's, and not `contentSchema`
apart_from_last : (name : Text) → (mark_of name == 63) ≡ false → (same_text name (codes "contentSchema") ≡ false) × (is_keyword_of keywords name ≡ true)
unfolding mark_of
apart_from_last name apart = not_last (same_text name (codes "contentSchema")) (keyword_named name keywords) (group_number name) apart

-- nor any other name that has the last
unlike : (name other : Text) → mark_of other ≡ 63 → (mark_of name == 63) ≡ false → same_text name other ≡ false
unlike name other last apart =
    same_text_differs name other (λ same. let there : (mark_of name == 63) ≡ true = (Decides-eqb (mark_of name) 63).1 (ap mark_of same ∙ last) in
    let both : true ≡ false = sym there ∙ apart in absurd (cc))

encoding_last : mark_of (codes "contentEncoding") ≡ 63
unfolding mark_of
encoding_last = refl

media_type_last : mark_of (codes "contentMediaType") ≡ 63
unfolding mark_of
media_type_last = refl

fell : (p q r w g s t : Bool) → p ≡ false → q ≡ false → r ≡ false → w ≡ true → cond p s (cond (q || (r || false)) t (not (w || g))) ≡ false
fell p q r w g s t e f h k = rw (e, f, h, k) refl

annotates_not : (s x : Value) (name : Text) → (mark_of name == 63) ≡ false → is_annotation s x name ≡ false
annotates_not s x name apart =
    let plain = apart_from_last name apart in
    fell (same_text name (codes "contentSchema")) (same_text name (codes "contentEncoding")) (same_text name (codes "contentMediaType")) (is_keyword_of keywords name) (begins name (codes "$"))
    (is_string x && is_some (get (codes "contentMediaType") s)) (is_string x)
    plain.0 (unlike name (codes "contentEncoding") encoding_last apart) (unlike name (codes "contentMediaType") media_type_last apart) plain.1

none_annotates : (s x : Value) (ms : List (Text × Value)) → list_any (has_mark 63) ms ≡ false → filter (λ m. is_annotation s x m.0) ms ≡ []
none_annotates s x [] none = refl
none_annotates s x (m ∷ ms) none =
    let parts = or_parts (has_mark 63 m) (list_any (has_mark 63) ms) none in
    rw (annotates_not s x m.0 parts.0) (none_annotates s x ms parts.1)

pub nothing_annotates : (a : Application) (s : Value) → a.schema.value ≡ s → list_any (has_mark 63) (members s) ≡ false → other_annotations a ≡ []
nothing_annotates a s same none =
    let at : list_any (has_mark 63) (members a.schema.value) ≡ false = ap (λ v. list_any (has_mark 63) (members v)) same ∙ none in
    rw (none_annotates a.schema.value a.instance (members a.schema.value) at) refl
