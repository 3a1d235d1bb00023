use Rattle.std.proofs.Common.{ap, sym, subst, ◌∙◌, unwrap_or, option_map, decimal}
use Rattle.definitions.specs.Shapes.{any_value}
use Rattle.json_doc.specs.Docs.{value}
use Rattle.keywords.specs.Rows.{row_named}
use Rattle.schema_hints.specs.SchemaPlaces.{IsSchemaAt, alone, in_list, in_map, extended}
use Rattle.schema_hints.proofs.schemas.push_below.Goals as goal

pub returns-in-OneSchema : goal.returns-in-OneSchema
unfolding row_named
returns-in-OneSchema c =
    let shape = ap (λ r. unwrap_or (option_map (λ k. k.shape) r) any_value) (sym c.in-Some.ensures) ∙ sym c.in-OneSchema.ensures in
    λ d v at there old. c.push_schema.ensures d
    (subst (λ l. IsSchemaAt d l (value c.args.member.now)) (sym c.in_ok-location.ensures) (alone d v _ _ _ at there shape)) old

pub returns-in-SchemaList : goal.returns-in-SchemaList
unfolding row_named
returns-in-SchemaList c =
    let shape = ap (λ r. unwrap_or (option_map (λ k. k.shape) r) any_value) (sym c.in-Some.ensures) ∙ sym c.in-SchemaList.ensures in
    let same = c.as_str.ensures.value ∙ c.in_ok-location.ensures in
    λ d v at there old. c.push_elements.ensures d
    (λ i w h. subst (λ l. IsSchemaAt d (extended l (decimal i)) w) (sym same) (in_list d v _ w _ _ i at there shape h)) old

pub returns-in-SchemaMap : goal.returns-in-SchemaMap
unfolding row_named
returns-in-SchemaMap c =
    let shape = ap (λ r. unwrap_or (option_map (λ k. k.shape) r) any_value) (sym c.in-Some.ensures) ∙ sym c.in-SchemaMap.ensures in
    let same = c.as_str-in-SchemaMap.ensures.value ∙ c.in_ok-location.ensures in
    λ d v at there old. c.push_members.ensures d
    (λ key w h. subst (λ l. IsSchemaAt d (extended l key) w) (sym same) (in_map d v _ w _ _ key at there shape h)) old
