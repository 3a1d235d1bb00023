use Rattle.std.proofs.Common.{◌≡◌, ◌∷◌, [], map, length, decimal, string_bytes, sym, ap, subst, ◌∙◌, arith}
use Rattle.std.proofs.lemmas.List.{length-map, nil_from_length}
use Rattle.definitions.specs.Values.{elements}
use Rattle.json_doc.specs.Docs.{value}
use Rattle.schema_scan.specs.Descents.{LeadsNowhere, StepsTo}
use Rattle.schema_scan.proofs.Descents.{from_list_itself, from_no_list, from_no_index, to_element}
use Rattle.schema_scan.proofs.HeldValues.{elements_none, elements_some, element_of}
use Rattle.schema_scan.proofs.pointing.descending.descend_into_list.Goals as goal

pub returns-in_err-token : goal.returns-in_err-token
returns-in_err-token c = rw c.from_residual.ensures (λ v h e.
    subst (λ r. LeadsNowhere (c.args.keyword.now ∷ map string_bytes r) v) (sym (nil_from_length c.args.rest.now c.in_err-token.ensures.cases))
    (from_list_itself c.args.keyword.now v (value c.args.list.now) h e))

pub returns-in_err-schemas : goal.returns-in_err-schemas
returns-in_err-schemas c = rw c.from_residual-in_err-schemas.ensures (λ v h e.
    from_no_list c.args.keyword.now (map string_bytes c.args.rest.now) v (value c.args.list.now) h e (elements_none (value c.args.list.now) (sym c.in_err-schemas.ensures)))

pub returns-in_err-index : goal.returns-in_err-index
returns-in_err-index c = rw c.from_residual-in_err-index.ensures (λ v h e.
    let w = value c.args.list.now in
    let items = c.in_ok-schemas.schemas.now in
    let is : elements w ≡ map value items = elements_some w (map value items) (sym c.in_ok-schemas.ensures) in
    let count : length (elements w) ≡ length items = ap length is ∙ length-map items value in
    subst (λ r. LeadsNowhere (c.args.keyword.now ∷ map string_bytes r) v) (sym c.in_ok-token.ensures.cases.0)
    (from_no_index c.args.keyword.now (string_bytes c.in_ok-token.token.now) (map string_bytes c.in_ok-token.rest.now) v w h e
    (λ i less f. c.in_err-index.ensures.none i (omega arith) (f ∙ sym c.as_str.ensures.value))))

pub returns : goal.returns
returns c = λ v h e.
    let w = value c.args.list.now in
    let k = c.args.keyword.now in
    let i = c.in_ok-index.index in
    let more = map string_bytes c.in_ok-token.rest.now in
    let items = c.in_ok-schemas.schemas.now in
    let is : elements w ≡ map value items = elements_some w (map value items) (sym c.in_ok-schemas.ensures) in
    let count : length (elements w) ≡ length items = ap length is ∙ length-map items value in
    let token : decimal i ≡ string_bytes c.in_ok-token.token.now = c.in_ok-index.ensures.some.1 ∙ c.as_str.ensures.value in
    let way : k ∷ decimal i ∷ more ≡ k ∷ map string_bytes c.args.rest.now = ap (λ t. k ∷ t ∷ more) token ∙ ap (λ r. k ∷ map string_bytes r) (sym c.in_ok-token.ensures.cases.0) in
    subst (λ r. StepsTo r v (k ∷ decimal i ∷ []) (value c.index-schemas-index.result) more) way
    (to_element k i more v w (value c.index-schemas-index.result) h e (omega (arith, c.index_of.ensures.word)) (omega (arith, c.index_of.ensures.word))
    (element_of w items i c.index-schemas-index.result is c.in_ok-index.ensures.some.0 c.index-schemas-index.is))
