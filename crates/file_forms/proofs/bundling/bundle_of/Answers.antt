use Rattle.std.proofs.Common.{rules}
use Rattle.json_doc.specs.Docs.{value}
use Rattle.file_forms.proofs.bundling.bundle_of.Goals as goal

pub returns-clause-ok : goal.returns-clause-ok
returns-clause-ok c = record { value = value c.in_ok-bundle.bundle; bundled = c.in_ok-bundle.ensures.ok; written = search rules }
