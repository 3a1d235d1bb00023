-- Where a linked resource's root is applied first.
use Rattle.std.specs.Prelude.{◌≡◌, Some, is_some, true}
use Rattle.definitions.specs.Values.{Value}
use Rattle.definitions.specs.Answers.{first_application}
use Rattle.definitions.specs.Schemas.{Schema}
use Rattle.definitions.specs.Targets.{resource_root}
use Rattle.linker.specs.LinkedDocuments.{linked_schemas, linked_uri}
use Rattle.linker.specs.declared.linked.Linked.{Linked}
use Rattle.json_doc.specs.Docs.{value}
use Rattle.json_doc.specs.declared.doc.Doc.{Doc}
use Rattle.evaluation_context.specs.Frames.{Frame, context_view, frame_standing}
use Rattle.evaluation_context.specs.Standings.{application_at}
use Rattle.evaluator.specs.declared.applying.Evaluation.{Evaluation}

-- the linked resource has a root, s is its schema, and applied here to any instance it is the first application
pub record StandsAtRoot (l : Linked) (f : Frame) (s : Value) : Type 0 where
  pub found : is_some (resource_root (linked_schemas l) (linked_uri l)) ≡ true
  pub schema : (root : Schema) → resource_root (linked_schemas l) (linked_uri l) ≡ Some root → root.value ≡ s
  pub there : (root : Schema) (x : Value) → resource_root (linked_schemas l) (linked_uri l) ≡ Some root
      → application_at (frame_standing f) s x ≡ first_application root x

-- the evaluation stands there, with this schema
abbrev pub IsAtRoot : Evaluation → Doc → Type 0
IsAtRoot e schema = StandsAtRoot e.linked.now (context_view e.context) (value schema)
