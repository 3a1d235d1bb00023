-- Nothing is being applied below the instance location.
use Rattle.std.proofs.Common.{◌≡◌, ◌++◌, ◌∷◌, ◌||◌, [], List, true, false, length, nat_le, refl, ap₂, arith, length-append}
use Rattle.std.proofs.lemmas.Bool.{and_parts, and_left, and_right, leb-true}
use Rattle.std.specs.List.{list_any}
use Rattle.definitions.specs.Values.{Text}
use Rattle.definitions.specs.Pointers.{same_pointer}
use Rattle.definitions.specs.Schemas.{Identity, same_identity}
use Rattle.definitions.specs.Applied.{InstanceLocation}
use Rattle.definitions.specs.Outcomes.{same_name}
use Rattle.evaluation_context.specs.Runnings.{are_above, is_running_as}
use Rattle.evaluation_context.proofs.RunningLaws.{pointers_differ}

pub none_lower : (identity : Identity) (place : InstanceLocation) (t : Text) (os : List (Identity × InstanceLocation)) → are_above (length place.pointer) os ≡ true
    → list_any (is_running_as identity (record place { pointer = place.pointer ++ t ∷ [] })) os ≡ false
none_lower identity place t [] h = refl
none_lower identity place t (o ∷ os) h =
    let p = and_parts (nat_le (length o.1.pointer) (length place.pointer)) (are_above (length place.pointer) os) h in
    let lower = place.pointer ++ t ∷ [] in
    let shorter : same_pointer o.1.pointer lower ≡ false =
    pointers_differ o.1.pointer lower (λ same. omega (arith, same, leb-true (length o.1.pointer) (length place.pointer) p.0, length-append place.pointer (t ∷ []))) in
    ap₂ (λ a b. a || b)
    (and_right (same_identity o.0 identity) _ (and_left (same_pointer o.1.pointer lower) (same_name o.1.name place.name) shorter))
    (none_lower identity place t os p.1)
