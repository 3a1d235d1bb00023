use Rattle.std.proofs.Common.{◌≡◌, is_some, take}
use Rattle.definitions.specs.Schemas.{table_of}
use Rattle.definitions.specs.Targets.{schema_with_dynamic_anchor}
use Rattle.definitions.specs.Values.{Text}
use Rattle.linker.specs.SharedDocuments.{shared_documents}
use Rattle.schema_scan.specs.DynamicResources.{has_resource}
use Rattle.linker.proofs.dynamic_resources.dynamic_resources_of.Given as goal

abbrev pub invariant-loop-document : goal.invariant-loop-document
invariant-loop-document l =
    (uri name : Text) → has_resource l.resources uri name
    ≡ is_some (schema_with_dynamic_anchor (table_of (shared_documents (take l.document-index l.documents))) uri name)
