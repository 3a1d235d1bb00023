use Rattle.std.proofs.Common.{◌≡◌, ◌++◌, [], codes, subst, sym, ap, ◌∙◌}
use Rattle.definitions.specs.Values.{object, text_at, to_members}
use Rattle.json_doc.specs.Docs.{value, members_view}
use Rattle.json_doc.specs.Members.{members_left}
use Rattle.json_doc.proofs.Views.{to_members-value}
use Rattle.keywords.specs.Rows.{shape_named}
use Rattle.schema_table.specs.Missteps.{own_missteps, shape_missteps}
use Rattle.schema_table.specs.Openings.{IsOpenedBy, id_under}
use Rattle.schema_table.proofs.Identified.{IsFound, first_id, found-all, found-before, found-first}
use Rattle.schema_table.proofs.own_keywords.check_keywords.Goals as goal

pub loop-name-init : goal.loop-name-init
loop-name-init c =
    let all : members_view c.args.members.now ≡ to_members (members_left c.into_iter-name-iterator.result) =
    sym (ap (λ i. to_members (members_left i)) c.into_iter-name-iterator.ensures.into_iter_gives ∙ to_members-value (members_view c.args.members.now) _ c.iter-name-items.ensures.all) in
    record {
      left = ap (own_missteps c.args.base.now c.args.at_root) all;
      found = record { first = ap (λ ms. text_at (codes "$id") (object ms)) all; named = tt };
    }

pub loop-name-preserved-then-is_none : goal.loop-name-preserved-then-is_none
loop-name-preserved-then-is_none c =
    let base = c.args.base.now in
    let inv = c.loop-name.invariant in
    let name = c.in-Some.name.now in
    let v = value c.in-Some.member.now in
    let rest = to_members (members_left c.next.new.self) in
    let passed : shape_missteps (shape_named name) base c.args.at_root name v ≡ [] =
    ap (λ s. shape_missteps s base c.args.at_root name v) (sym c.shape_named.ensures) ∙ c.in_ok-found.ensures.ends in
    record {
      left = inv.left ∙ ap (λ ms. own_missteps base c.args.at_root (to_members ms)) c.in-Some.ensures.steps ∙ ap (λ ms. ms ++ own_missteps base c.args.at_root rest) passed;
      found =
          found-first base (text_at (codes "$id") (object (members_view c.args.members.now))) (id_under (shape_named name) v) _ (text_at (codes "$id") (object rest)) c.loop-name.opened c.in_ok-found.found
          c.if-is_none.ensures inv.found
          (ap (λ ms. text_at (codes "$id") (object (to_members ms))) c.in-Some.ensures.steps ∙ first_id base c.args.at_root name v rest passed)
          (subst (λ s. IsOpenedBy base (id_under s v) c.in_ok-found.found) c.shape_named.ensures c.in_ok-found.ensures.opened);
    }

pub loop-name-preserved : goal.loop-name-preserved
loop-name-preserved c =
    let base = c.args.base.now in
    let inv = c.loop-name.invariant in
    let name = c.in-Some.name.now in
    let v = value c.in-Some.member.now in
    let rest = to_members (members_left c.next.new.self) in
    let passed : shape_missteps (shape_named name) base c.args.at_root name v ≡ [] =
    ap (λ s. shape_missteps s base c.args.at_root name v) (sym c.shape_named.ensures) ∙ c.in_ok-found.ensures.ends in
    record {
      left = inv.left ∙ ap (λ ms. own_missteps base c.args.at_root (to_members ms)) c.in-Some.ensures.steps ∙ ap (λ ms. ms ++ own_missteps base c.args.at_root rest) passed;
      found =
          found-before base (text_at (codes "$id") (object (members_view c.args.members.now))) _ (text_at (codes "$id") (object rest)) c.loop-name.opened c.if-is_none.ensures inv.found;
    }

pub returns-clause-opened : goal.returns-clause-opened
returns-clause-opened c =
    let base = c.args.base.now in
    let id = text_at (codes "$id") (object (members_view c.args.members.now)) in
    found-all base id c.loop-name.opened
    (subst (λ ms. IsFound base id c.loop-name.opened (text_at (codes "$id") (object (to_members ms)))) c.in-None.ensures.steps.0 c.loop-name.invariant.found)
