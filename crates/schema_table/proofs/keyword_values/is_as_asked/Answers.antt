use Rattle.std.proofs.Common.{◌∙◌}
use Rattle.json_doc.specs.Docs.{value}
use Rattle.schema_table.proofs.Asked.{asked-shape}
use Rattle.schema_table.proofs.keyword_values.is_as_asked.Goals as goal

pub returns-in_default : goal.returns-in_default
returns-in_default c = λ base other.
    c.fits.ensures ∙ asked-shape c.args.shape base c.args.at_root (value c.args.member.now) c.in_default.not-Reference other c.in_default.not-Dialect
