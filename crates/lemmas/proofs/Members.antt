-- The members of an object, as a list, and what well-formed ones keep.
use Rattle.std.proofs.Common.{◌≡◌, ◌&&◌, true, refl, ap}
use Rattle.std.proofs.lemmas.Bool.{and_parts}
use Rattle.std.specs.Str.{is_utf8}
use Rattle.definitions.specs.Values.{Text, Value, Members, no_members, member, members_list, to_members, is_well_formed, are_well_formed_members, is_before}

pub to_members-members_list : (ms : Members) → to_members (members_list ms) ≡ ms
to_members-members_list no_members = refl
to_members-members_list (member n v ms) = ap (member n v) (to_members-members_list ms)

pub member_parts : (n : Text) (v : Value) (ms : Members) → are_well_formed_members (member n v ms) ≡ true → (is_before n ms ≡ true) × (is_well_formed v ≡ true) × (are_well_formed_members ms ≡ true)
member_parts n v ms h =
    let p = and_parts (is_utf8 n) (is_before n ms && (is_well_formed v && are_well_formed_members ms)) h in
    let q = and_parts (is_before n ms) (is_well_formed v && are_well_formed_members ms) p.1 in
    let r = and_parts (is_well_formed v) (are_well_formed_members ms) q.1 in
    (q.0, r.0, r.1)
