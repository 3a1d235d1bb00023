-- The steps of a way that owns its names, beside the names.
use Rattle.std.specs.Prelude.{List, [], ◌∷◌, Bool, true, ◌&&◌, drop, length, nat_eq, nat_le, take}
use Rattle.std.specs.Str.{is_utf8}
use Rattle.definitions.specs.Values.{Text}
use Rattle.locations.specs.Hops.{Hop, to_member, to_element}
use Rattle.locations.specs.declared.owned_way.OwnedStep.{OwnedStep}
use Rattle.locations.specs.declared.owned_way.OwnedStep.TheVariants.{Name, Index}

-- a step whose name begins the names, and the names that follow it
abbrev pub owned_hop : OwnedStep → Text → Hop
owned_hop (Name len) names = to_member (take len names)
owned_hop (Index index) names = to_element index

abbrev pub names_after : OwnedStep → Text → Text
names_after (Name len) names = drop len names
names_after (Index index) names = names

abbrev pub hops_along : List OwnedStep → Text → List Hop
hops_along [] names = []
hops_along (s ∷ ss) names = owned_hop s names ∷ hops_along ss (names_after s names)

-- whether the names begin with a text as long as the step's name, and whether they are such texts, one for each name
abbrev pub is_cut : OwnedStep → Text → Bool
is_cut (Name len) names = nat_le len (length names) && is_utf8 (take len names)
is_cut (Index index) names = true

abbrev pub are_cut : List OwnedStep → Text → Bool
are_cut [] names = nat_eq (length names) 0
are_cut (s ∷ ss) names = is_cut s names && are_cut ss (names_after s names)
