-- What a walk has visited, and what more.
use Rattle.std.proofs.Common.{◌≡◌, List, [], ◌∷◌, ◌++◌, Result, Ok, Err, OnOk, refl, subst, sym, ◌∙◌}
use Rattle.locations.specs.Hops.{Hop}
use Rattle.schema_table.specs.Gathering.{Gathers}
use Rattle.schema_table.specs.Spots.{Spot}
use Rattle.schema_table.specs.Visits.{Visits, visited_hops}
use Rattle.schema_table.specs.declared.visit.Visit.{Visit}
use Rattle.schema_table.proofs.Gatherings.{gathers-append, gathers-none}

pub visits-none : (v : Visit) → Visits v v []
visits-none v = record { gathers = gathers-none v.gathered; way = refl }

pub visits-append : (u v w : Visit) (ss ts : List Spot) → Visits u v ss → Visits v w ts → Visits u w (ss ++ ts)
visits-append u v w ss ts a b = record { gathers = gathers-append u.gathered v.gathered w.gathered ss ts a.gathers b.gathers; way = b.way ∙ a.way }

-- after the resource of a schema is opened
pub visits-opened : {T E : Type 0} (r : Result T E) (u v w : Visit) (ss : List Spot) → Gathers u.gathered v.gathered [] → visited_hops v ≡ visited_hops u
    → OnOk r (Visits v w ss) → OnOk r (Visits u w ss)
visits-opened (Ok t) u v w ss opened way more =
    record { gathers = gathers-append u.gathered v.gathered w.gathered [] ss opened more.gathers; way = more.way ∙ way }
visits-opened (Err e) u v w ss opened way more = more

-- one step further, and back
pub visits-moved : (u v w x : Visit) (hop : Hop) (ss : List Hop → List Spot) → v.gathered ≡ u.gathered → x.gathered ≡ w.gathered → visited_hops v ≡ visited_hops u ++ hop ∷ []
    → ((hops : List Hop) (h : Hop) → visited_hops w ≡ hops ++ h ∷ [] → visited_hops x ≡ hops)
    → Visits v w (ss (visited_hops v)) → Visits u x (ss (visited_hops u ++ hop ∷ []))
visits-moved u v w x hop ss before after further back more =
    record {
      gathers = subst (λ g. Gathers g x.gathered (ss (visited_hops u ++ hop ∷ []))) before
          (subst (λ g. Gathers v.gathered g (ss (visited_hops u ++ hop ∷ []))) (sym after) (subst (λ hops. Gathers v.gathered w.gathered (ss hops)) further more.gathers));
      way = back (visited_hops u) hop (more.way ∙ further);
    }
