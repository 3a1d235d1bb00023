-- Members in order, each of which takes the schema of its name from schemas in order.
use Rattle.std.proofs.Common.{◌≡◌, List, ◌∷◌, ◌++◌, Option, sym, ap, ap₂}
use Rattle.std.specs.List.{flat_map}
use Rattle.definitions.specs.Values.{Text, Value, entry}
use Rattle.json_doc.specs.Members.{HasNamesInOrder}
use Rattle.json_doc.specs.NamedMembers.{IsTaken}
use Rattle.json_doc.proofs.NamesInOrder.{found_alike, others_above}

-- the members after the first find what they found before it took its own
pub first_takes : {T : Type 0} (f : Text × Value → Option Value → List T) (m : Text × Value) (ms before after : List (Text × Value)) (o : Option Value)
    → IsTaken m.0 before after o → HasNamesInOrder (m ∷ ms)
    → flat_map (λ n. f n (entry n.0 before)) (m ∷ ms) ≡ f m o ++ flat_map (λ n. f n (entry n.0 after)) ms
first_takes f m ms before after o taken ordered =
    ap₂ (λ a b. a ++ b) (ap (f m) (sym taken.found)) (sym (found_alike f m.0 before after ms taken.later (others_above m ms ordered)))
