use Rattle.json_doc.specs.Docs.{value}
use Rattle.schema_hints.specs.HintViews.{AreOfSchemas}
use Rattle.schema_hints.proofs.finding.look_over.Given as goal

abbrev pub invariant-loop-place : goal.invariant-loop-place
invariant-loop-place l = AreOfSchemas (value l.fn.document) l.found.hints.items
