use Rattle.std.proofs.Common.{◌≡◌, ◌++◌, ◌∷◌, [], ◌+◌, List, map, drop, Some, None, length, decimal, false, refl, subst, sym, ap, ap₂, ◌∙◌, arith, append_assoc}
use Rattle.std.proofs.lemmas.List.{drop_more, length-map}
use Rattle.std.specs.Result.{OnOk}
use Rattle.definitions.specs.Uris.{without_fragment}
use Rattle.definitions.specs.Resolution.{target_uri}
use Rattle.definitions.specs.Values.{to_elements, to_members, elements_nesting, members_nesting}
use Rattle.json_doc.specs.Docs.{value, members_view}
use Rattle.json_doc.specs.Members.{members_left}
use Rattle.json_doc.proofs.Views.{to_members-value}
use Rattle.locations.specs.Hops.{step_hop, to_element, to_member}
use Rattle.keywords.specs.Rows.{shape_named}
use Rattle.schema_table.specs.Missteps.{below_name, missteps, missteps_at, missteps_below, missteps_in_list, missteps_in_map, missteps_inside}
use Rattle.schema_table.specs.Refusals.{Ends}
use Rattle.schema_table.specs.Spots.{Spot, spots, spots_from, spots_at, spots_below, spots_in_list, spots_in_map}
use Rattle.schema_table.specs.Visits.{Visits, visited_hops}
use Rattle.schema_table.proofs.Visited.{visits-append, visits-none, visits-opened}
use Rattle.schema_table.proofs.Visiting.{Refuses-append, missteps-by, missteps-index, spots-by, spots-index}
use Rattle.schema_table.proofs.visit.Visit.+visit.Goals as goal

pub visit_below-loop-name-init : goal.visit_below-loop-name-init
visit_below-loop-name-init t c =
    let all : members_view c.args.members.now ≡ to_members (members_left c.into_iter-name-iterator.result) =
    sym (ap (λ i. to_members (members_left i)) c.into_iter-name-iterator.ensures.into_iter_gives ∙ to_members-value (members_view c.args.members.now) _ c.iter-name-items.ensures.all) in
    record {
      done = [];
      nests = omega (arith, ap members_nesting all);
      visits = visits-none c.args.self.now;
      left = ap (spots_below (visited_hops c.args.self.now) c.args.start c.args.uri.now) all;
      missteps = ap (missteps_below c.args.uri.now) all;
    }

pub visit_below-loop-name-preserved : goal.visit_below-loop-name-preserved
visit_below-loop-name-preserved t c =
    let inv = c.loop-name.invariant in
    let way = visited_hops c.args.self.now in
    let name = c.in-Some.name.now in
    let v = value c.in-Some.member.now in
    let rest = to_members (members_left c.next.new.self) in
    let here : List Spot = spots_at (shape_named name) (way ++ to_member name ∷ []) c.args.start c.args.uri.now v in
    record {
      done = inv.done ++ here;
      nests = omega (arith, inv.nests, ap (λ ms. members_nesting (to_members ms)) c.in-Some.ensures.steps);
      visits =
          visits-append c.args.self.now c.loop-name.self c.visit_keyword.new.self inv.done here inv.visits
          (subst (λ hops. Visits c.loop-name.self c.visit_keyword.new.self (spots_at (shape_named name) (hops ++ to_member name ∷ []) c.args.start c.args.uri.now v)) inv.visits.way c.in-Ok.ensures.visits);
      left =
          inv.left ∙ ap (λ ms. inv.done ++ spots_below way c.args.start c.args.uri.now (to_members ms)) c.in-Some.ensures.steps
          ∙ sym (append_assoc inv.done here (spots_below way c.args.start c.args.uri.now rest));
      missteps =
          inv.missteps ∙ ap (λ ms. missteps_below c.args.uri.now (to_members ms)) c.in-Some.ensures.steps
          ∙ ap (λ ms. below_name name ms ++ missteps_below c.args.uri.now rest) c.in-Ok.ensures.ends;
    }

pub visit_map-loop-name-init : goal.visit_map-loop-name-init
visit_map-loop-name-init t c =
    let all : members_view c.args.schemas.now ≡ to_members (members_left c.into_iter-name-iterator.result) =
    sym (ap (λ i. to_members (members_left i)) c.into_iter-name-iterator.ensures.into_iter_gives ∙ to_members-value (members_view c.args.schemas.now) _ c.iter-name-items.ensures.all) in
    record {
      done = [];
      nests = omega (arith, ap members_nesting all);
      visits = visits-none c.args.self.now;
      left = ap (spots_in_map (visited_hops c.args.self.now) c.args.start c.args.uri.now) all;
      missteps = ap (missteps_in_map c.args.uri.now) all;
    }

pub visit_map-loop-name-preserved : goal.visit_map-loop-name-preserved
visit_map-loop-name-preserved t c =
    let inv = c.loop-name.invariant in
    let way = visited_hops c.args.self.now in
    let name = c.in-Some.name.now in
    let v = value c.in-Some.schema.now in
    let rest = to_members (members_left c.next.new.self) in
    let here : List Spot = spots (way ++ to_member name ∷ []) c.args.start c.args.uri.now v in
    record {
      done = inv.done ++ here;
      nests = omega (arith, inv.nests, ap (λ ms. members_nesting (to_members ms)) c.in-Some.ensures.steps);
      visits =
          visits-append c.args.self.now c.loop-name.self c.visit_step.new.self inv.done here inv.visits
          (subst (λ hops. Visits c.loop-name.self c.visit_step.new.self (spots (hops ++ to_member name ∷ []) c.args.start c.args.uri.now v)) inv.visits.way c.in-Ok.ensures.visits);
      left =
          inv.left ∙ ap (λ ms. inv.done ++ spots_in_map way c.args.start c.args.uri.now (to_members ms)) c.in-Some.ensures.steps
          ∙ sym (append_assoc inv.done here (spots_in_map way c.args.start c.args.uri.now rest));
      missteps =
          inv.missteps ∙ ap (λ ms. missteps_in_map c.args.uri.now (to_members ms)) c.in-Some.ensures.steps
          ∙ ap (λ ms. below_name name ms ++ missteps_in_map c.args.uri.now rest) c.in-Ok.ensures.ends;
    }

pub visit_list-loop-index-preserved : goal.visit_list-loop-index-preserved
visit_list-loop-index-preserved t c =
    let inv = c.loop-index.invariant in
    let way = visited_hops c.args.self.now in
    let d = c.index-schemas-index.result in
    let i = c.loop-index.index in
    let xs = c.args.schemas.now in
    let rest = to_elements (map value (drop (i + 1) xs)) in
    let here : List Spot = spots (way ++ to_element i ∷ []) c.args.start c.args.uri.now (value d) in
    record {
      done = inv.done ++ here;
      nests = omega (arith, inv.nests, ap (λ ys. elements_nesting (to_elements (map value ys))) (drop_more xs i d c.loop-index-test.true));
      visits =
          visits-append c.args.self.now c.loop-index.self c.visit_step.new.self inv.done here inv.visits
          (subst (λ hops. Visits c.loop-index.self c.visit_step.new.self (spots (hops ++ to_element i ∷ []) c.args.start c.args.uri.now (value d))) inv.visits.way c.in-Ok.ensures.visits);
      left =
          inv.left ∙ ap (λ ss. inv.done ++ ss) (spots-index way c.args.start c.args.uri.now xs i d c.loop-index-test.true c.index-schemas-index.is)
          ∙ sym (append_assoc inv.done here (spots_in_list way c.args.start c.args.uri.now (i + 1) rest));
      missteps =
          inv.missteps ∙ missteps-index c.args.uri.now xs i d c.loop-index-test.true c.index-schemas-index.is
          ∙ ap (λ ms. below_name (decimal i) ms ++ missteps_in_list c.args.uri.now (i + 1) rest) c.in-Ok.ensures.ends;
    }

pub visit_below-returns-in-Err-clause-ends : goal.visit_below-returns-in-Err-clause-ends
visit_below-returns-in-Err-clause-ends t c =
    let uri = c.args.uri.now in
    let name = c.in-Some.name.now in
    let rest = to_members (members_left c.next.new.self) in
    let all : missteps_below uri (members_view c.args.members.now) ≡ below_name name (missteps_at (shape_named name) uri (value c.in-Some.member.now)) ++ missteps_below uri rest =
    c.loop-name.invariant.missteps ∙ ap (λ ms. missteps_below uri (to_members ms)) c.in-Some.ensures.steps in
    rw all (Refuses-append c.under_name.result _ _ (c.under_name.ensures _ c.in-Err.ensures.ends))

pub visit_map-returns-in-Err-clause-ends : goal.visit_map-returns-in-Err-clause-ends
visit_map-returns-in-Err-clause-ends t c =
    let uri = c.args.uri.now in
    let name = c.in-Some.name.now in
    let rest = to_members (members_left c.next.new.self) in
    let all : missteps_in_map uri (members_view c.args.schemas.now) ≡ below_name name (missteps uri false (value c.in-Some.schema.now)) ++ missteps_in_map uri rest =
    c.loop-name.invariant.missteps ∙ ap (λ ms. missteps_in_map uri (to_members ms)) c.in-Some.ensures.steps in
    rw all (Refuses-append c.under_name.result _ _ (c.under_name.ensures _ c.in-Err.ensures.ends))

pub visit_list-returns-in-Err-clause-ends : goal.visit_list-returns-in-Err-clause-ends
visit_list-returns-in-Err-clause-ends t c =
    let uri = c.args.uri.now in
    let d = c.index-schemas-index.result in
    let i = c.loop-index.index in
    let xs = c.args.schemas.now in
    let all : missteps_in_list uri 0 (to_elements (map value xs)) ≡ below_name (decimal i) (missteps uri false (value d)) ++ missteps_in_list uri (i + 1) (to_elements (map value (drop (i + 1) xs))) =
    c.loop-index.invariant.missteps ∙ missteps-index uri xs i d c.loop-index-test.true c.index-schemas-index.is in
    rw all (Refuses-append c.under_index.result _ _ (c.under_index.ensures _ c.in-Err.ensures.ends))

-- a schema that opens a resource
pub visit_schema-returns-in_ok-uri-in-Some-clause-visits : goal.visit_schema-returns-in_ok-uri-in-Some-clause-visits
visit_schema-returns-in_ok-uri-in-Some-clause-visits t c =
    let way = visited_hops c.args.self.now in
    let base = c.args.base.now in
    let v = value c.args.schema.now in
    let opened = rw c.in-Some.is at c.in_ok-opened.ensures.opened in
    let here : length way ≡ c.len-here.result = omega (arith, length-map c.args.self.now.way.items step_hop) in
    let uri : without_fragment (target_uri base c.in-Some.opened.id.now) ≡ c.as_str.result.now = sym (c.as_str.ensures.value ∙ c.in_ok-uri-in-Some.ensures.uri) in
    subst (λ ss. OnOk c.visit_in_resource.result (Visits c.args.self.now c.visit_in_resource.new.self ss))
    (sym (spots-by way c.args.start base v (Some c.in-Some.opened.id.now) (sym opened.same) ∙ ap₂ (λ n u. spots_from way n u v) here uri))
    (visits-opened c.visit_in_resource.result c.args.self.now _ c.visit_in_resource.new.self (spots_from way c.len-here.result c.as_str.result.now v)
    c.in_ok-uri-in-Some.ensures.gathers refl c.visit_in_resource.ensures.visits)

pub visit_schema-returns-in_ok-uri-in-Some-clause-ends : goal.visit_schema-returns-in_ok-uri-in-Some-clause-ends
visit_schema-returns-in_ok-uri-in-Some-clause-ends t c =
    let base = c.args.base.now in
    let v = value c.args.schema.now in
    let opened = rw c.in-Some.is at c.in_ok-opened.ensures.opened in
    let uri : without_fragment (target_uri base c.in-Some.opened.id.now) ≡ c.as_str.result.now = sym (c.as_str.ensures.value ∙ c.in_ok-uri-in-Some.ensures.uri) in
    subst (λ ms. Ends c.visit_in_resource.result ms)
    (sym (missteps-by base c.args.at_root v (Some c.in-Some.opened.id.now) (sym opened.same) c.in_ok-opened.ensures.ends ∙ ap (λ u. missteps_inside u v) uri))
    c.visit_in_resource.ensures.ends

-- a schema in the resource around
pub visit_schema-returns-in-None-clause-visits : goal.visit_schema-returns-in-None-clause-visits
visit_schema-returns-in-None-clause-visits t c =
    let opened = rw c.in-None.is at c.in_ok-opened.ensures.opened in
    subst (λ ss. OnOk c.visit_in_resource-in-None.result (Visits c.args.self.now c.visit_in_resource-in-None.new.self ss))
    (sym (spots-by (visited_hops c.args.self.now) c.args.start c.args.base.now (value c.args.schema.now) None (sym opened.same)))
    c.visit_in_resource-in-None.ensures.visits

pub visit_schema-returns-in-None-clause-ends : goal.visit_schema-returns-in-None-clause-ends
visit_schema-returns-in-None-clause-ends t c =
    let opened = rw c.in-None.is at c.in_ok-opened.ensures.opened in
    subst (λ ms. Ends c.visit_in_resource-in-None.result ms)
    (sym (missteps-by c.args.base.now c.args.at_root (value c.args.schema.now) None (sym opened.same) c.in_ok-opened.ensures.ends))
    c.visit_in_resource-in-None.ensures.ends
