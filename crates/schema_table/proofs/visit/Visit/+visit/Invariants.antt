use Rattle.std.proofs.Common.{◌≡◌, ◌++◌, ◌+◌, ◌*◌, ◌≤◌, List, map, drop}
use Rattle.definitions.specs.Values.{nesting, elements_nesting, members_nesting, to_elements, to_members}
use Rattle.json_doc.specs.Docs.{value, members_view}
use Rattle.json_doc.specs.Members.{members_left}
use Rattle.schema_table.specs.Missteps.{missteps_below, missteps_in_list, missteps_in_map}
use Rattle.schema_table.specs.Spots.{Spot, spots_below, spots_in_list, spots_in_map}
use Rattle.schema_table.specs.Visits.{Visits, visited_hops}
use Rattle.schema_table.proofs.visit.Visit.+visit.Given as goal

abbrev pub decreases-visit_schema : goal.decreases-visit_schema
decreases-visit_schema l = 8 * nesting (value l.schema.now) + 2

abbrev pub decreases-visit_in_resource : goal.decreases-visit_in_resource
decreases-visit_in_resource l = 8 * nesting (value l.schema.now) + 1

abbrev pub decreases-visit_below : goal.decreases-visit_below
decreases-visit_below l = 8 * members_nesting (members_view l.members.now) + 7

abbrev pub decreases-visit_keyword : goal.decreases-visit_keyword
decreases-visit_keyword l = 8 * nesting (value l.member.now) + 6

abbrev pub decreases-visit_keyword_value : goal.decreases-visit_keyword_value
decreases-visit_keyword_value l = 8 * nesting (value l.member.now) + 5

abbrev pub decreases-visit_list : goal.decreases-visit_list
decreases-visit_list l = 8 * elements_nesting (to_elements (map value l.schemas.now)) + 4

abbrev pub decreases-visit_map : goal.decreases-visit_map
decreases-visit_map l = 8 * members_nesting (members_view l.schemas.now) + 4

abbrev pub decreases-visit_step : goal.decreases-visit_step
decreases-visit_step l = 8 * nesting (value l.schema.now) + 3

abbrev pub invariant-visit_below-loop-name : goal.invariant-visit_below-loop-name
invariant-visit_below-loop-name l =
    record {
      done : List Spot;
      nests : members_nesting (to_members (members_left l.name-iterator)) ≤ members_nesting (members_view l.members);
      visits : Visits l.fn.self l.self done;
      left : spots_below (visited_hops l.fn.self) l.start l.uri (members_view l.members)
          ≡ done ++ spots_below (visited_hops l.fn.self) l.start l.uri (to_members (members_left l.name-iterator));
      missteps : missteps_below l.uri (members_view l.members) ≡ missteps_below l.uri (to_members (members_left l.name-iterator));
    }

abbrev pub invariant-visit_list-loop-index : goal.invariant-visit_list-loop-index
invariant-visit_list-loop-index l =
    record {
      done : List Spot;
      nests : elements_nesting (to_elements (map value (drop l.index l.schemas))) ≤ elements_nesting (to_elements (map value l.schemas));
      visits : Visits l.fn.self l.self done;
      left : spots_in_list (visited_hops l.fn.self) l.start l.uri 0 (to_elements (map value l.schemas))
          ≡ done ++ spots_in_list (visited_hops l.fn.self) l.start l.uri l.index (to_elements (map value (drop l.index l.schemas)));
      missteps : missteps_in_list l.uri 0 (to_elements (map value l.schemas)) ≡ missteps_in_list l.uri l.index (to_elements (map value (drop l.index l.schemas)));
    }

abbrev pub invariant-visit_map-loop-name : goal.invariant-visit_map-loop-name
invariant-visit_map-loop-name l =
    record {
      done : List Spot;
      nests : members_nesting (to_members (members_left l.name-iterator)) ≤ members_nesting (members_view l.schemas);
      visits : Visits l.fn.self l.self done;
      left : spots_in_map (visited_hops l.fn.self) l.start l.uri (members_view l.schemas)
          ≡ done ++ spots_in_map (visited_hops l.fn.self) l.start l.uri (to_members (members_left l.name-iterator));
      missteps : missteps_in_map l.uri (members_view l.schemas) ≡ missteps_in_map l.uri (to_members (members_left l.name-iterator));
    }
