use Rattle.std.proofs.Common.{◌≡◌, None, Some, codes, option_map, sym, ap, ◌∙◌}
use Rattle.definitions.specs.Schemas.{Schema, identity}
use Rattle.definitions.specs.Values.{get}
use Rattle.schema_scan.specs.Locateds.{located_view}
use Rattle.keyword_plans.proofs.enumerations.Enumerations.values.Goals as goal

pub returns-in-Some : goal.returns-in-Some
returns-in-Some c =
    λ s inside same.
    let asked : identity s ≡ (c.args.resource.now, c.in_ok-pointer_to.field-0) = same ∙ ap (λ ts. (c.args.resource.now, ts)) (sym c.in_ok-pointer_to.ensures) in
    let found : Some (located_view c.in-Some.located) ≡ Some s = rw c.in-Some.is at (c.in_ok-located.ensures.named s inside asked) in
    let schema : located_view c.in-Some.located ≡ s = cc in
    c.get.ensures ∙ ap (λ (t : Schema). get (codes "enum") t.value) schema

pub returns-in-None : goal.returns-in-None
returns-in-None c =
    λ s inside same.
    let asked : identity s ≡ (c.args.resource.now, c.in_ok-pointer_to.field-0) = same ∙ ap (λ ts. (c.args.resource.now, ts)) (sym c.in_ok-pointer_to.ensures) in
    let found : option_map located_view None ≡ Some s = rw c.in-None.is at (c.in_ok-located.ensures.named s inside asked) in
    absurd (cc)
