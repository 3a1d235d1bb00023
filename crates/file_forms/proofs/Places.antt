-- Where files lie, and which were read.
use Rattle.std.proofs.Common.{◌≡◌, ◌∙◌, ◌++◌, ◌∷◌, [], ◌==◌, ℕ, Bool, true, false, ◌||◌, List, Result, Ok, Err, IfOk, Option, ap, refl, sym, subst, map, String, Global, string_bytes, inl, inr, ◌⊎◌, ⊎_elim, arith}
use Rattle.std.specs.List.{Contains, list_any}
use Rattle.std.specs.declared.cmp.Ordering.{Ordering}
use Rattle.std.specs.declared.cmp.Ordering.TheVariants.{Less, Equal, Greater}
use Rattle.std.specs.Ordering.{is_eq, match_ordering, nat_cmp}
use Rattle.std.specs.BTreeSet.{insert_key}
use Rattle.std.specs.Cmp.Lexicographic.{slice_cmp}
use Rattle.std.specs.Str.{bytes_eq}
use Rattle.std.proofs.lemmas.List.Elements.{Contains-append_cases, Contains-append_left, Contains-append_right, Contains-push, Contains-push_cases}
use Rattle.std.proofs.lemmas.Map.Text.{is_eq-slice_cmp}
use Rattle.std.proofs.lemmas.Slice.Eq.{bytes_eq-Decides}
use Rattle.definitions.specs.Resolution.{base_form}
use Rattle.definitions.specs.Values.{Text}
use Rattle.faults.specs.View.{fault_view}
use Rattle.faults.specs.declared.Fault.{Fault}
use Rattle.file_checks.specs.FileUris.{SpellsPath, path_in}
use Rattle.file_forms.specs.Gathered.{IsNoPlace, LiesAt}
use Rattle.file_forms.proofs.Going.{texts}

pub lies : (folder path place absolute shown uri uri_shown : Text) → absolute ≡ path_in folder path → shown ≡ absolute → SpellsPath uri shown → uri_shown ≡ uri → base_form uri_shown ≡ Ok place
    → LiesAt folder path place
lies folder path place absolute shown uri uri_shown is shown_is spells uri_is base =
    record { uri = uri; spells = subst (SpellsPath uri) (shown_is ∙ is) spells; base = ap base_form (sym uri_is) ∙ base }

pub lies_nowhere : (folder path absolute shown uri uri_shown : Text) (fault : Fault) → absolute ≡ path_in folder path → shown ≡ absolute → SpellsPath uri shown → uri_shown ≡ uri → base_form uri_shown ≡ Err (fault_view fault)
    → IsNoPlace folder path fault
lies_nowhere folder path absolute shown uri uri_shown fault is shown_is spells uri_is base = (uri, subst (SpellsPath uri) (shown_is ∙ is) spells, ap base_form (sym uri_is) ∙ base)

-- ---- a place among others
cons_cases : (y : Text) (ys : List Text) (q : Text) → Contains (y ∷ ys) q → (y ≡ q) ⊎ Contains ys q
cons_cases y ys q h = ⊎_elim (λ one. ⊎_elim (λ none. inr (Contains-append_right [] ys q (Contains-append_left [] ys q none))) (λ e. inl e) (Contains-push_cases [] y q one)) (λ rest. inr rest) (Contains-append_cases (y ∷ []) ys q h)

one_more : (y : Text) (ys : List Text) (q : Text) → Contains ys q → Contains (y ∷ ys) q
one_more y ys q h = Contains-append_right (y ∷ []) ys q h

first_of : (y : Text) (ys : List Text) (q : Text) → y ≡ q → Contains (y ∷ ys) q
first_of y ys q e = subst (Contains (y ∷ ys)) e (Contains-append_left (y ∷ []) ys y (Contains-push [] y))

same_bytes : (q : Text) (k : String Global) (b : Bool) → b ≡ bytes_eq q (string_bytes k) → b ≡ true → string_bytes k ≡ q
same_bytes q k b is e = sym ((bytes_eq-Decides q (string_bytes k)).0 (sym is ∙ e))

pub was_read : (q : Text) (ks : List (String Global)) → list_any (λ k. is_eq (slice_cmp nat_cmp q (string_bytes k))) ks ≡ true → Contains (texts ks) q
was_read q [] e = absurd (let both : false ≡ true = e in cc)
was_read q (k ∷ ks) e = go (is_eq (slice_cmp nat_cmp q (string_bytes k))) (is_eq-slice_cmp q (string_bytes k)) e (λ h. was_read q ks h)
  where
    go : (b : Bool) → b ≡ bytes_eq q (string_bytes k) → (b || list_any (λ k. is_eq (slice_cmp nat_cmp q (string_bytes k))) ks) ≡ true
        → (list_any (λ k. is_eq (slice_cmp nat_cmp q (string_bytes k))) ks ≡ true → Contains (texts ks) q) → Contains (texts (k ∷ ks)) q
    go true is e below = first_of (string_bytes k) (texts ks) q (same_bytes q k true is refl)
    go false is e below = one_more (string_bytes k) (texts ks) q (below e)

pub placed : (cmp : String Global → String Global → Ordering) (ks : List (String Global)) (k : String Global) (q : Text) → Contains (texts (insert_key cmp ks k)) q
    → Contains (texts ks) q ⊎ (q ≡ string_bytes k)
placed cmp [] k q h = ⊎_elim (λ e. inr (sym e)) (λ none. inl none) (cons_cases (string_bytes k) [] q h)
placed cmp (x ∷ xs) k q h = go (cmp k x) h (λ i. placed cmp xs k q i)
  where
    go : (o : Ordering) → Contains (texts (match_ordering o (k ∷ x ∷ xs) (x ∷ xs) (x ∷ insert_key cmp xs k))) q
        → (Contains (texts (insert_key cmp xs k)) q → Contains (texts xs) q ⊎ (q ≡ string_bytes k)) → Contains (texts (x ∷ xs)) q ⊎ (q ≡ string_bytes k)
    go Less h below = ⊎_elim (λ e. inr (sym e)) (λ rest. inl rest) (cons_cases (string_bytes k) (texts (x ∷ xs)) q h)
    go Equal h below = inl h
    go Greater h below =
        ⊎_elim (λ e. inl (first_of (string_bytes x) (texts xs) q e)) (λ rest. ⊎_elim (λ i. inl (one_more (string_bytes x) (texts xs) q i)) (λ e. inr e) (below rest))
        (cons_cases (string_bytes x) (texts (insert_key cmp xs k)) q h)

-- ---- a place that isn't among others
no_place : (q : Text) → Contains [] q → ⊥
no_place q h = absurd (omega arith)

other_bytes : (q : Text) (k : String Global) (b : Bool) → b ≡ bytes_eq q (string_bytes k) → b ≡ false → string_bytes k ≡ q → ⊥
other_bytes q k b is unequal e = absurd (let both : true ≡ false = sym ((bytes_eq-Decides q (string_bytes k)).1 (sym e)) ∙ sym is ∙ unequal in cc)

pub was_unread : (q : Text) (ks : List (String Global)) → list_any (λ k. is_eq (slice_cmp nat_cmp q (string_bytes k))) ks ≡ false → Contains (texts ks) q → ⊥
was_unread q [] e h = no_place q h
was_unread q (k ∷ ks) e h = go (is_eq (slice_cmp nat_cmp q (string_bytes k))) (is_eq-slice_cmp q (string_bytes k)) e (λ n i. was_unread q ks n i)
  where
    go : (b : Bool) → b ≡ bytes_eq q (string_bytes k) → (b || list_any (λ k. is_eq (slice_cmp nat_cmp q (string_bytes k))) ks) ≡ false
        → (list_any (λ k. is_eq (slice_cmp nat_cmp q (string_bytes k))) ks ≡ false → Contains (texts ks) q → ⊥) → ⊥
    go true is e below = absurd (let both : true ≡ false = e in cc)
    go false is e below = ⊎_elim (λ same. other_bytes q k false is refl same) (λ rest. below e rest) (cons_cases (string_bytes k) (texts ks) q h)

-- ---- one more
pub kept : (cmp : String Global → String Global → Ordering) (ks : List (String Global)) (k : String Global) (q : Text) → Contains (texts ks) q → Contains (texts (insert_key cmp ks k)) q
kept cmp [] k q h = one_more (string_bytes k) [] q h
kept cmp (x ∷ xs) k q h = go (cmp k x) (λ i. kept cmp xs k q i)
  where
    go : (o : Ordering) → (Contains (texts xs) q → Contains (texts (insert_key cmp xs k)) q) → Contains (texts (match_ordering o (k ∷ x ∷ xs) (x ∷ xs) (x ∷ insert_key cmp xs k))) q
    go Less below = one_more (string_bytes k) (texts (x ∷ xs)) q h
    go Equal below = h
    go Greater below = ⊎_elim (λ e. first_of (string_bytes x) (texts (insert_key cmp xs k)) q e) (λ rest. one_more (string_bytes x) (texts (insert_key cmp xs k)) q (below rest)) (cons_cases (string_bytes x) (texts xs) q h)

pub put : (cmp : String Global → String Global → Ordering) → ((a b : String Global) → cmp a b ≡ Equal → string_bytes b ≡ string_bytes a) → (ks : List (String Global)) (k : String Global)
    → Contains (texts (insert_key cmp ks k)) (string_bytes k)
put cmp exact [] k = first_of (string_bytes k) [] (string_bytes k) refl
put cmp exact (x ∷ xs) k = go (cmp k x) refl (put cmp exact xs k)
  where
    go : (o : Ordering) → cmp k x ≡ o → Contains (texts (insert_key cmp xs k)) (string_bytes k) → Contains (texts (match_ordering o (k ∷ x ∷ xs) (x ∷ xs) (x ∷ insert_key cmp xs k))) (string_bytes k)
    go Less e below = first_of (string_bytes k) (texts (x ∷ xs)) (string_bytes k) refl
    go Equal e below = first_of (string_bytes x) (texts xs) (string_bytes k) (exact k x e)
    go Greater e below = one_more (string_bytes x) (texts (insert_key cmp xs k)) (string_bytes k) below
