use Rattle.std.proofs.Common.{◌≡◌, ◌&&◌, IfOk, Option, option_and_then, option_map, subst, sym}
use Rattle.definitions.specs.Values.{same_text}
use Rattle.definitions.specs.Schemas.{Schema, is_root}
use Rattle.definitions.specs.Targets.{schema_at_pointer}
use Rattle.definition_laws.proofs.Membership.{found_there}
use Rattle.schema_scan.specs.CompiledDocuments.{compiled_schemas}
use Rattle.schema_scan.specs.Descents.{pointed_schema}
use Rattle.schema_scan.specs.Locateds.{located_view}
use Rattle.schema_scan.proofs.compiled.Compiled.pointed_from.Goals as goal

pub at_pointer-requires : goal.at_pointer-requires
at_pointer-requires c =
    (found_there (λ (s : Schema). same_text c.args.uri.now s.resource && is_root s) (compiled_schemas c.args.self.now) (located_view c.in-Some.root)
    (sym c.in-Some.ensures)).0

pub returns-in-Some : goal.returns-in-Some
unfolding pointed_schema
returns-in-Some c =
    subst (λ (o : Option Schema). IfOk c.at_pointer.result (λ t. option_map located_view t ≡ option_and_then (schema_at_pointer c.args.pointer.now) o)) c.in-Some.ensures
    (subst (λ way. IfOk c.at_pointer.result (λ t. option_map located_view t ≡ schema_at_pointer way (located_view c.in-Some.root))) c.tokens.ensures c.at_pointer.ensures)
