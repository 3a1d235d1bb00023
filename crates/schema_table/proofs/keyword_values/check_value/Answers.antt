use Rattle.std.proofs.Common.{◌≡◌, true, false, is_some, sym, ap, ◌∙◌}
use Rattle.json_doc.specs.Docs.{value}
use Rattle.keywords.specs.Shapes.{shape_view}
use Rattle.schema_table.specs.Missteps.{is_as_asked}
use Rattle.schema_table.proofs.Asked.{no_missteps, none_under, one_misstep}
use Rattle.schema_table.proofs.keyword_values.check_value.Goals as goal

pub returns-in-Some-clause-ends : goal.returns-in-Some-clause-ends
returns-in-Some-clause-ends c =
    let base = c.args.base.now in
    let v = value c.args.member.now in
    let asked : true ≡ is_as_asked (shape_view c.args.shape) base c.args.at_root v =
    ap is_some (sym c.in-Some.is) ∙ c.in_ok-opened-in-Identifier.ensures.asked ∙ ap (λ s. is_as_asked (shape_view s) base c.args.at_root v) (sym c.in-Identifier.is) in
    no_missteps (shape_view c.args.shape) base c.args.at_root c.args.name.now v asked

pub returns-in-None-clause-ends : goal.returns-in-None-clause-ends
returns-in-None-clause-ends c =
    let base = c.args.base.now in
    let v = value c.args.member.now in
    let asked : false ≡ is_as_asked (shape_view c.args.shape) base c.args.at_root v =
    ap is_some (sym c.in-None.is) ∙ c.in_ok-opened-in-Identifier.ensures.asked ∙ ap (λ s. is_as_asked (shape_view s) base c.args.at_root v) (sym c.in-Identifier.is) in
    one_misstep c.refusal_of.result (shape_view c.args.shape) base c.args.at_root c.args.name.now v asked c.refusal_of.ensures

pub returns-then-branch : goal.returns-then-branch
returns-then-branch c =
    record {
      ends =
          no_missteps (shape_view c.args.shape) c.args.base.now c.args.at_root c.args.name.now (value c.args.member.now)
          (sym c.if-branch.true ∙ c.in_ok-is_as_asked-in_default.ensures c.args.base.now c.in_default.not-Identifier);
      opened = record { same = none_under c.args.shape (value c.args.member.now) c.in_default.not-Identifier; named = tt };
    }

pub returns-else-branch : goal.returns-else-branch
returns-else-branch c =
    record {
      ends =
          one_misstep c.refusal_of-else-branch.result (shape_view c.args.shape) c.args.base.now c.args.at_root c.args.name.now (value c.args.member.now)
          (sym c.if-branch.false ∙ c.in_ok-is_as_asked-in_default.ensures c.args.base.now c.in_default.not-Identifier) c.refusal_of-else-branch.ensures;
      opened = tt;
    }
