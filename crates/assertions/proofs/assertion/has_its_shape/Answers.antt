use Rattle.std.proofs.Common.{ap, ◌∙◌}
use Rattle.json_doc.specs.Docs.{value}
use Rattle.keywords.specs.Shapes.{fits_shape}
use Rattle.assertions.specs.AssertionView.{assertion_view}
use Rattle.assertions.proofs.Shapes.{fits_asserted}
use Rattle.assertions.proofs.assertion.has_its_shape.Goals as goal

pub returns : goal.returns
returns c =
    let v = value c.args.keyword_value.now in
    c.fits.ensures ∙ ap (λ s. fits_shape s v) c.shape_of.ensures ∙ fits_asserted (assertion_view c.args.assertion) v
