-- A list of schemas, read off the documents that stand for them.
use Rattle.std.proofs.Common.{◌≡◌, map, Vec, Global, ap}
use Rattle.definitions.specs.Values.{Text}
use Rattle.definitions.specs.Applied.{Application, list_applications}
use Rattle.json_doc.specs.Docs.{value}
use Rattle.json_doc.specs.declared.doc.Doc.{Doc, List as DocList}
use Rattle.applicators.specs.Applications.{planned_elements}
use Rattle.json_doc.proofs.Views.{elements-List}

pub each_listed-List : (a : Application) (k : Text) (v : Vec Doc Global) → list_applications a k (value (DocList v)) ≡ planned_elements k a 0 (map value v.items)
each_listed-List a k v = ap (planned_elements k a 0) (elements-List v)
