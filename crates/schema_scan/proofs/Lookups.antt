-- What a pointer finds in a list of ways that begin with keys.
use Rattle.std.proofs.Common.{◌≡◌, ◌&&◌, ◌||◌, List, [], ◌∷◌, ◌++◌, map, Bool, true, false, cond, Option, Some, None, option_map, refl, ap, ◌∙◌}
use Rattle.std.proofs.lemmas.Bool.{or_parts}
use Rattle.std.specs.List.{find, flat_map, list_any}
use Rattle.definitions.specs.Values.{Text, same_text}
use Rattle.definitions.specs.Lists.{has_repeat}
use Rattle.definitions.specs.Pointers.{Pointer, same_pointer}
use Rattle.lemmas.proofs.Texts.{same_text_itself, same_text_is}
use Rattle.schema_scan.specs.Descents.{row}

abbrev pub look : {A : Type 0} → Pointer → List (Pointer × A) → Option A
look p xs = option_map (λ t. t.1) (find (λ t. same_pointer p t.0) xs)

abbrev pub prefixed : {A : Type 0} → Text → Pointer × A → Pointer × A
prefixed key t = (key ∷ t.0, t.1)

-- ---- in one list after another
append_at : {A : Type 0} (b : Bool) (x : Pointer × A) (xs all : Option (Pointer × A)) (after : Option A)
    → option_map (λ t. t.1) (cond b (Some x) xs) ≡ None → (option_map (λ t. t.1) xs ≡ None → option_map (λ t. t.1) all ≡ after)
    → option_map (λ t. t.1) (cond b (Some x) all) ≡ after
append_at true x xs all after e more = cc
append_at false x xs all after e more = more e

-- where nothing is found before
pub look_after : {A : Type 0} (p : Pointer) (xs ys : List (Pointer × A)) → look p xs ≡ None → look p (xs ++ ys) ≡ look p ys
look_after p [] ys e = refl
look_after {A} p (x ∷ xs) ys e = append_at (same_pointer p x.0) x (find (λ t. same_pointer p t.0) xs) (find (λ t. same_pointer p t.0) (xs ++ ys)) (look p ys) e (look_after p xs ys)

before_at : {A : Type 0} (b : Bool) (x : Pointer × A) (xs all : Option (Pointer × A))
    → option_map (λ t. t.1) all ≡ option_map (λ t. t.1) xs
    → option_map (λ t. t.1) (cond b (Some x) all) ≡ option_map (λ t. t.1) (cond b (Some x) xs)
before_at true x xs all e = refl
before_at false x xs all e = e

-- where nothing is found after
pub look_before : {A : Type 0} (p : Pointer) (xs ys : List (Pointer × A)) → look p ys ≡ None → look p (xs ++ ys) ≡ look p xs
look_before p [] ys e = e
look_before p (x ∷ xs) ys e = before_at (same_pointer p x.0) x (find (λ t. same_pointer p t.0) xs) (find (λ t. same_pointer p t.0) (xs ++ ys)) (look_before p xs ys e)

-- ---- behind a key
key_at : {A : Type 0} (same b : Bool) (key : Text) (x : Pointer × A) (xs : Option (Pointer × A)) (ys : Option (Pointer × A)) → same ≡ true
    → option_map (λ t. t.1) ys ≡ option_map (λ t. t.1) xs
    → option_map (λ t. t.1) (cond (same && b) (Some (prefixed key x)) ys) ≡ option_map (λ t. t.1) (cond b (Some x) xs)
key_at true true key x xs ys s e = refl
key_at true false key x xs ys s e = e
key_at false b key x xs ys s e = cc

pub look_behind : {A : Type 0} (key : Text) (p : Pointer) (xs : List (Pointer × A)) → look (key ∷ p) (map (prefixed key) xs) ≡ look p xs
look_behind key p [] = refl
look_behind key p (x ∷ xs) =
    key_at (same_text key key) (same_pointer p x.0) key x (find (λ t. same_pointer p t.0) xs) (find (λ t. same_pointer (key ∷ p) t.0) (map (prefixed key) xs)) (same_text_itself key) (look_behind key p xs)

other_at : {A : Type 0} (same b : Bool) (x : Pointer × A) (ys : Option (Pointer × A)) → same ≡ false → option_map (λ t. t.1) ys ≡ None → option_map (λ t. t.1) (cond (same && b) (Some x) ys) ≡ None
other_at true b x ys s e = cc
other_at false b x ys s e = e

pub look_elsewhere : {A : Type 0} (name key : Text) (p : Pointer) (xs : List (Pointer × A)) → same_text name key ≡ false → look (name ∷ p) (map (prefixed key) xs) ≡ None
look_elsewhere name key p [] e = refl
look_elsewhere name key p (x ∷ xs) e =
    other_at (same_text name key) (same_pointer p x.0) (prefixed key x) (find (λ t. same_pointer (name ∷ p) t.0) (map (prefixed key) xs)) e (look_elsewhere name key p xs e)

pub look_before_keys : {A : Type 0} (key : Text) (xs : List (Pointer × A)) → look [] (map (prefixed key) xs) ≡ None
look_before_keys key [] = refl
look_before_keys key (x ∷ xs) = look_before_keys key xs

-- ---- in a table of keys
pub no_row : {X : Type 0} (key : X → Text) (name : Text) (xs : List X) → list_any (same_text name) (map key xs) ≡ false → row key name xs ≡ None
no_row key name [] h = refl
no_row {X} key name (x ∷ xs) h = by (same_text name (key x)) h (no_row key name xs)
  where
    by : (b : Bool) → (b || list_any (same_text name) (map key xs)) ≡ false → (list_any (same_text name) (map key xs) ≡ false → row key name xs ≡ None) → cond b (Some x) (row key name xs) ≡ None
    by true e more = cc
    by false e more = more e

module _ {X A : Type 0} (key : X → Text) (inner : X → List (Pointer × A)) where
  abbrev pub keyed : List X → List (Pointer × A)
  keyed xs = flat_map (λ x. map (prefixed (key x)) (inner x)) xs

  none_at : (name : Text) (p : Pointer) (x : X) (xs : List X) (b : Bool) → same_text name (key x) ≡ b → (row key name xs ≡ None → look (name ∷ p) (keyed xs) ≡ None)
      → cond b (Some x) (row key name xs) ≡ None → look (name ∷ p) (keyed (x ∷ xs)) ≡ None
  none_at name p x xs true e more h = cc
  none_at name p x xs false e more h = look_after (name ∷ p) (map (prefixed (key x)) (inner x)) (keyed xs) (look_elsewhere name (key x) p (inner x) e) ∙ more h

  pub look_keyed-none : (name : Text) (p : Pointer) (xs : List X) → row key name xs ≡ None → look (name ∷ p) (keyed xs) ≡ None
  look_keyed-none name p [] h = refl
  look_keyed-none name p (x ∷ xs) h = none_at name p x xs (same_text name (key x)) refl (look_keyed-none name p xs) h

  some_at : (name : Text) (p : Pointer) (x y : X) (xs : List X) (b : Bool) → same_text name (key x) ≡ b → has_repeat same_text (map key (x ∷ xs)) ≡ false
      → (row key name xs ≡ Some y → look (name ∷ p) (keyed xs) ≡ look p (inner y))
      → cond b (Some x) (row key name xs) ≡ Some y → look (name ∷ p) (keyed (x ∷ xs)) ≡ look p (inner y)
  some_at name p x y xs true e once more h =
      let is : name ≡ key x = same_text_is name (key x) e in
      let same : x ≡ y = cc in
      let none : look (key x ∷ p) (keyed xs) ≡ None =
      look_keyed-none (key x) p xs (no_row key (key x) xs (or_parts (list_any (same_text (key x)) (map key xs)) (has_repeat same_text (map key xs)) once).0) in
      ap (λ n. look (n ∷ p) (keyed (x ∷ xs))) is
      ∙ look_before (key x ∷ p) (map (prefixed (key x)) (inner x)) (keyed xs) none
      ∙ look_behind (key x) p (inner x) ∙ ap (λ z. look p (inner z)) same
  some_at name p x y xs false e once more h = look_after (name ∷ p) (map (prefixed (key x)) (inner x)) (keyed xs) (look_elsewhere name (key x) p (inner x) e) ∙ more h

  pub look_keyed-some : (name : Text) (p : Pointer) (xs : List X) (y : X) → has_repeat same_text (map key xs) ≡ false → row key name xs ≡ Some y → look (name ∷ p) (keyed xs) ≡ look p (inner y)
  look_keyed-some name p [] y once h = cc
  look_keyed-some name p (x ∷ xs) y once h =
      some_at name p x y xs (same_text name (key x)) refl once (look_keyed-some name p xs y (or_parts (list_any (same_text (key x)) (map key xs)) (has_repeat same_text (map key xs)) once).1) h

  pub look_keyed-empty : (xs : List X) → look [] (keyed xs) ≡ None
  look_keyed-empty [] = refl
  look_keyed-empty (x ∷ xs) = look_after [] (map (prefixed (key x)) (inner x)) (keyed xs) (look_before_keys (key x) (inner x)) ∙ look_keyed-empty xs
