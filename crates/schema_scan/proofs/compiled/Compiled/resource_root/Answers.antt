use Rattle.std.proofs.Common.{◌≡◌, false, Option, Some, None, is_some, option_and_then, refl, sym, ap, ◌∙◌}
use Rattle.definitions.specs.Schemas.{Schema}
use Rattle.definitions.specs.Targets.{resource_root}
use Rattle.schema_scan.specs.CompiledDocuments.{compiled_schemas}
use Rattle.schema_scan.proofs.compiled.Compiled.resource_root.Goals as goal

pub returns-in-Some : goal.returns-in-Some
returns-in-Some c =
    c.numbered_root.ensures
    ∙ ap (option_and_then (resource_root (compiled_schemas c.args.self.now))) (c.resource_number.ensures (sym c.in-Some.ensures.held))

none : (o : Option Schema) → false ≡ is_some o → None ≡ o
none None e = refl
none (Some s) e = cc

pub returns-in-None : goal.returns-in-None
returns-in-None c = none _ c.in-None.ensures.held
