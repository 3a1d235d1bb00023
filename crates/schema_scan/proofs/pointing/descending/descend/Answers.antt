use Rattle.std.proofs.Common.{◌≡◌, ◌∷◌, [], map, string_bytes, sym, ap, subst, ◌∙◌}
use Rattle.definitions.specs.Keywords.{keywords, shape_in}
use Rattle.definitions.specs.Shapes.{one_schema, schema_list, schema_map}
use Rattle.keywords.proofs.Names.{shape_named-row}
use Rattle.json_doc.specs.Docs.{value, members_value}
use Rattle.schema_scan.specs.Descents.{StepsTo, row, name_of, IsHeld, schema_shape}
use Rattle.schema_scan.specs.DescentViews.{GoesOn}
use Rattle.schema_scan.proofs.Descents.{from_no_member, from_other, to_one, holds_none}
use Rattle.schema_scan.proofs.HeldValues.{members_none, members_some, held}
use Rattle.schema_scan.proofs.pointing.descending.descend.Goals as goal

pub returns-in_err-as_dict : goal.returns-in_err-as_dict
returns-in_err-as_dict c = rw c.from_residual.ensures
    (from_no_member c.args.keyword.now (map string_bytes c.args.rest.now) (value c.args.schema.now)
    (ap (row name_of c.args.keyword.now) (members_none (value c.args.schema.now) (sym c.in_err-as_dict.ensures))))

pub returns-in_err-name : goal.returns-in_err-name
returns-in_err-name c = rw c.from_residual-in_err-name.ensures
    (from_no_member c.args.keyword.now (map string_bytes c.args.rest.now) (value c.args.schema.now)
    (ap (row name_of c.args.keyword.now) (members_some (value c.args.schema.now) (members_value c.in_ok-as_dict.field-0.now) (sym c.in_ok-as_dict.ensures)) ∙ sym c.in_err-name.ensures.found))

pub returns-in-OneSchema : goal.returns-in-OneSchema
returns-in-OneSchema c =
    let v = value c.args.schema.now in
    let k = c.args.keyword.now in
    let n = c.in_ok-name.name.now in
    let u = value c.in_ok-name.member.now in
    let rest = map string_bytes c.args.rest.now in
    let at = held v k (members_value c.in_ok-as_dict.field-0.now) (c.in_ok-name.name, c.in_ok-name.member) (sym c.in_ok-as_dict.ensures) c.in_ok-name.ensures.ordered c.in_ok-name.ensures.found in
    let shape : shape_in keywords n ≡ one_schema = shape_named-row n ∙ sym c.in-OneSchema.ensures in
    subst (λ s. StepsTo (k ∷ rest) v (s ∷ []) u rest) at.0 (to_one k rest v u at.1 (ap (shape_in keywords) at.0 ∙ shape))

pub returns-in-SchemaList : goal.returns-in-SchemaList
returns-in-SchemaList c =
    let v = value c.args.schema.now in
    let k = c.args.keyword.now in
    let n = c.in_ok-name.name.now in
    let u = value c.in_ok-name.member.now in
    let rest = map string_bytes c.args.rest.now in
    let at = held v k (members_value c.in_ok-as_dict.field-0.now) (c.in_ok-name.name, c.in_ok-name.member) (sym c.in_ok-as_dict.ensures) c.in_ok-name.ensures.ordered c.in_ok-name.ensures.found in
    let shape : shape_in keywords n ≡ schema_list = shape_named-row n ∙ sym c.in-SchemaList.ensures in
    subst (λ s. GoesOn (s ∷ rest) v c.descend_into_list.result) (sym at.0) (c.descend_into_list.ensures v (subst (λ s. IsHeld v s u) at.0 at.1) shape)

pub returns-in-SchemaMap : goal.returns-in-SchemaMap
returns-in-SchemaMap c =
    let v = value c.args.schema.now in
    let k = c.args.keyword.now in
    let n = c.in_ok-name.name.now in
    let u = value c.in_ok-name.member.now in
    let rest = map string_bytes c.args.rest.now in
    let at = held v k (members_value c.in_ok-as_dict.field-0.now) (c.in_ok-name.name, c.in_ok-name.member) (sym c.in_ok-as_dict.ensures) c.in_ok-name.ensures.ordered c.in_ok-name.ensures.found in
    let shape : shape_in keywords n ≡ schema_map = shape_named-row n ∙ sym c.in-SchemaMap.ensures in
    subst (λ s. GoesOn (s ∷ rest) v c.descend_into_map.result) (sym at.0) (c.descend_into_map.ensures v (subst (λ s. IsHeld v s u) at.0 at.1) shape)

pub returns-in_default : goal.returns-in_default
returns-in_default c =
    let v = value c.args.schema.now in
    let k = c.args.keyword.now in
    let u = value c.in_ok-name.member.now in
    let at = held v k (members_value c.in_ok-as_dict.field-0.now) (c.in_ok-name.name, c.in_ok-name.member) (sym c.in_ok-as_dict.ensures) c.in_ok-name.ensures.ordered c.in_ok-name.ensures.found in
    from_other k (map string_bytes c.args.rest.now) v u at.1 (ap (λ s. schema_shape (shape_in keywords s)) at.0 ∙ ap schema_shape (shape_named-row c.in_ok-name.name.now ∙ sym c.shape_named.ensures)
    ∙ holds_none c.shape_named.result c.in_default.not-OneSchema c.in_default.not-SchemaList c.in_default.not-SchemaMap)
