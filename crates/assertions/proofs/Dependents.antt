-- `dependentRequired`, along its lists or along the members of the instance.
use Rattle.std.proofs.Common.{◌≡◌, List, [], ◌∷◌, ◌++◌, ◌&&◌, ◌||◌, Bool, not, Option, Some, None, is_some, refl, sym, ap, ◌∙◌}
use Rattle.std.specs.List.{list_all, flat_map}
use Rattle.definitions.specs.Values.{Text, Value, Members, object, entry, members}
use Rattle.definitions.specs.Assertions.{has_names, has_dependents}
use Rattle.json_doc.specs.Members.{HasNamesInOrder}
use Rattle.assertions.specs.Dependents.{has_all_dependents, has_names_if}
use Rattle.assertions.proofs.SharedNames.{along_either}

pub of_object : (ms : Members) (v : Value) → has_dependents (object ms) v ≡ has_all_dependents (object ms) (members v)
of_object ms (object ds) = refl
of_object ms _ = refl

abbrev hold : List Bool → Bool
hold = list_all (λ b. b)

-- a test of each member and of what is found under its name, told by a list of answers
told : (p : Text × Value → Option Value → Bool) (f : Text × Value → Option Value → List Bool)
    → ((m : Text × Value) (o : Option Value) (bs : List Bool) → hold (f m o ++ bs) ≡ (p m o && hold bs))
    → (found xs : List (Text × Value)) → list_all (λ m. p m (entry m.0 found)) xs ≡ hold (flat_map (λ m. f m (entry m.0 found)) xs)
told p f h found [] = refl
told p f h found (m ∷ ms) =
    ap (λ b. p m (entry m.0 found) && b) (told p f h found ms) ∙ sym (h m (entry m.0 found) (flat_map (λ m. f m (entry m.0 found)) ms))

abbrev of_list : Value → Text × Value → Option Value → List Bool
of_list x d None = []
of_list x d (Some _) = has_names x d.1 ∷ []

abbrev of_member : Value → Text × Value → Option Value → List Bool
of_member x m None = []
of_member x m (Some names) = has_names x names ∷ []

each_list : (x : Value) (d : Text × Value) (o : Option Value) (bs : List Bool) → hold (of_list x d o ++ bs) ≡ ((not (is_some o) || has_names x d.1) && hold bs)
each_list x d None bs = refl
each_list x d (Some _) bs = refl

each_member : (x : Value) (m : Text × Value) (o : Option Value) (bs : List Bool) → hold (of_member x m o ++ bs) ≡ (has_names_if x o && hold bs)
each_member x m None bs = refl
each_member x m (Some _) bs = refl

pub along_instance : (x : Value) (ds ms : List (Text × Value)) → members x ≡ ms → HasNamesInOrder ds → HasNamesInOrder ms
    → list_all (λ m. has_names_if x (entry m.0 ds)) ms ≡ has_all_dependents x ds
along_instance x ds ms e h ordered =
    told (λ m o. has_names_if x o) (of_member x) (each_member x) ds ms
    ∙ sym (ap hold (along_either (of_list x) (of_member x) (λ m. refl) (λ m. refl) (λ n v y. refl) ds ms h ordered))
    ∙ sym (told (λ d o. not (is_some o) || has_names x d.1) (of_list x) (each_list x) ms ds)
    ∙ ap (λ xs. list_all (λ d. not (is_some (entry d.0 xs)) || has_names x d.1) ds) (sym e)
