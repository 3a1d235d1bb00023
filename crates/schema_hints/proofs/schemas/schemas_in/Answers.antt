use Rattle.std.proofs.Common.{sym, subst}
use Rattle.std.proofs.lemmas.List.Elements.{All-nil}
use Rattle.json_doc.specs.Docs.{value}
use Rattle.schema_hints.specs.HintViews.{AreSchemas}
use Rattle.schema_hints.specs.SchemaPlaces.{IsSchemaAt, root}
use Rattle.schema_hints.proofs.schemas.schemas_in.Goals as goal

pub loop-number-init : goal.loop-number-init
loop-number-init c =
    let d = value c.args.document.now in
    c.push_schema.ensures d (subst (λ l. IsSchemaAt d l d) (sym c.new.ensures.bytes) (root d)) (subst (AreSchemas d) (sym c.new-found.ensures.items) (All-nil _))
