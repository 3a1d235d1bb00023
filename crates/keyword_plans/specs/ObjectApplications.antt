-- What the keywords of a schema object see of its application.
use Rattle.std.specs.Prelude.{◌≡◌, Contains}
use Rattle.definitions.specs.Patterns.{has_match}
use Rattle.definitions.specs.Applied.{Application, Rules}
use Rattle.definitions.specs.Answers.{rules_of}
use Rattle.json_doc.specs.Docs.{value}
use Rattle.linker.specs.LinkedDocuments.{linked_documents, linked_schemas}
use Rattle.linker.specs.declared.linked.Linked.{Linked}
use Rattle.keyword_plans.specs.LinkedResources.{HasResources}
use Rattle.applicators.specs.Subjects.{subject_value}
use Rattle.keyword_plans.specs.declared.application.ObjectApplication.{ObjectApplication}

-- the rules over the linked documents
abbrev pub linked_rules : Linked → Rules
linked_rules l = rules_of has_match (linked_documents l)

-- the site of this application, whose schema is one of the linked documents', and whose dynamic scope has their resources
pub record Shows (application : ObjectApplication) (a : Application) : Type 0 where
  pub schema : a.schema.value ≡ value application.schema.now
  pub resource : a.schema.resource ≡ application.resource.now
  pub instance : a.instance ≡ subject_value application.subject
  pub inside : Contains (linked_schemas application.linked.now) a.schema
  pub scope : HasResources application.linked.now a.scope
