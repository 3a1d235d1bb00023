use Rattle.json_doc.specs.Docs.{value}
use Rattle.schema_hints.specs.HintViews.{AreSchemas}
use Rattle.schema_hints.proofs.schemas.schemas_in.Given as goal

abbrev pub invariant-loop-number : goal.invariant-loop-number
invariant-loop-number l = AreSchemas (value l.fn.document) l.found.items
