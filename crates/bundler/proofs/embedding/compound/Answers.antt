use Rattle.std.proofs.Common.{◌≡◌, List, [], map, length, codes, sym, arith, ap, ap₂, ◌∙◌}
use Rattle.std.proofs.lemmas.Bool.Decides.{nat_tests}
use Rattle.std.proofs.lemmas.List.{length-map}
use Rattle.std.proofs.lemmas.Result.{IfOk-weaker}
use Rattle.definitions.specs.Values.{object, to_members}
use Rattle.definitions.specs.Schemas.{Document}
use Rattle.definitions.specs.Bundles.{with_member, members_with_documents}
use Rattle.bundler.specs.Constituents.{constituent_view}
use Rattle.bundler.proofs.Docs.{dict_value, bundle_with}
use Rattle.bundler.proofs.embedding.compound.Goals as goal

pub returns-clause-ok : goal.returns-clause-ok
returns-clause-ok c =
    let os : List Document = map constituent_view c.args.others.now in
    let some_there : length c.args.others.now ≡ 0 → ⊥ = λ e. grind (arith, nat_tests, c.if-is_empty.ensures, e) in
    let some : os ≡ [] → ⊥ = λ e. some_there (sym (length-map c.args.others.now constituent_view) ∙ ap length e) in
    IfOk-weaker c.with_member.result _ _
    (λ d h. h
    ∙ ap₂ (λ v w. with_member (codes "$defs") v w)
    (dict_value c.in_ok-defs.defs ∙ ap (λ ms. object (to_members ms)) (c.in_ok-defs.ensures.ok ∙ ap (members_with_documents os) c.in_ok-own_defs.ensures.ok))
    c.in_ok-whole.ensures.ok
    ∙ bundle_with (constituent_view c.args.root.now) os some)
    c.with_member.ensures.ok
