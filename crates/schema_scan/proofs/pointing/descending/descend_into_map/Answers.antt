use Rattle.std.proofs.Common.{◌≡◌, ◌∷◌, [], map, None, string_bytes, sym, ap, subst, ◌∙◌}
use Rattle.std.proofs.lemmas.List.{nil_from_length}
use Rattle.definitions.specs.Values.{members}
use Rattle.json_doc.specs.Docs.{value, members_value}
use Rattle.schema_scan.specs.Descents.{LeadsNowhere, StepsTo, row, name_of}
use Rattle.schema_scan.proofs.Descents.{from_map_itself, from_no_map, from_no_entry, to_entry}
use Rattle.schema_scan.proofs.HeldValues.{members_none, members_some, held}
use Rattle.schema_scan.proofs.pointing.descending.descend_into_map.Goals as goal

pub returns-in_err-token : goal.returns-in_err-token
returns-in_err-token c = rw c.from_residual.ensures (λ v h e.
    subst (λ r. LeadsNowhere (c.args.keyword.now ∷ map string_bytes r) v) (sym (nil_from_length c.args.rest.now c.in_err-token.ensures.cases))
    (from_map_itself c.args.keyword.now v (value c.args.object.now) h e))

pub returns-in_err-as_dict : goal.returns-in_err-as_dict
returns-in_err-as_dict c = rw c.from_residual-in_err-as_dict.ensures (λ v h e.
    from_no_map c.args.keyword.now (map string_bytes c.args.rest.now) v (value c.args.object.now) h e (members_none (value c.args.object.now) (sym c.in_err-as_dict.ensures)))

pub returns-in_err-name : goal.returns-in_err-name
returns-in_err-name c = rw c.from_residual-in_err-name.ensures (λ v h e.
    let w = value c.args.object.now in
    let t = string_bytes c.in_ok-token.token.now in
    let is : members w ≡ members_value c.in_ok-as_dict.field-0.now = members_some w (members_value c.in_ok-as_dict.field-0.now) (sym c.in_ok-as_dict.ensures) in
    let none : row name_of t (members w) ≡ None = ap (row name_of t) is ∙ ap (λ n. row name_of n (members_value c.in_ok-as_dict.field-0.now)) (sym c.as_str.ensures.value) ∙ sym c.in_err-name.ensures.found in
    subst (λ r. LeadsNowhere (c.args.keyword.now ∷ map string_bytes r) v) (sym c.in_ok-token.ensures.cases.0)
    (from_no_entry c.args.keyword.now t (map string_bytes c.in_ok-token.rest.now) v w h e none))

pub returns : goal.returns
returns c = λ v h e.
    let w = value c.args.object.now in
    let k = c.args.keyword.now in
    let t = c.as_str.result.now in
    let n = c.in_ok-name.name.now in
    let u = value c.in_ok-name.schema.now in
    let more = map string_bytes c.in_ok-token.rest.now in
    let at = held w t (members_value c.in_ok-as_dict.field-0.now) (c.in_ok-name.name, c.in_ok-name.schema) (sym c.in_ok-as_dict.ensures) c.in_ok-name.ensures.ordered c.in_ok-name.ensures.found in
    let way : k ∷ t ∷ more ≡ k ∷ map string_bytes c.args.rest.now = ap (λ s. k ∷ s ∷ more) c.as_str.ensures.value ∙ ap (λ r. k ∷ map string_bytes r) (sym c.in_ok-token.ensures.cases.0) in
    subst (λ r. StepsTo r v (k ∷ n ∷ []) u more) way
    (subst (λ s. StepsTo (k ∷ t ∷ more) v (k ∷ s ∷ []) u more) at.0 (to_entry k t more v w u h e at.1))
