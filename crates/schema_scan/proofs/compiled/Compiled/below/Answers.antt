use Rattle.std.proofs.Common.{◌≡◌, false, true, is_some, sym, ap, ap₂, ◌∙◌}
use Rattle.definitions.specs.Values.{Text, Value}
use Rattle.definitions.specs.Pointers.{Pointer}
use Rattle.definitions.specs.Resolution.{target_uri}
use Rattle.definitions.specs.Uris.{without_fragment}
use Rattle.definitions.specs.Schemas.{Schema, below}
use Rattle.definitions.specs.Targets.{resource_root}
use Rattle.json_doc.specs.Docs.{value}
use Rattle.locations.specs.Steps.{tokens}
use Rattle.schema_scan.specs.DescentViews.{tokens_taken}
use Rattle.schema_scan.specs.CompiledDocuments.{compiled_schemas}
use Rattle.schema_scan.specs.Locateds.{located_view}
use Rattle.schema_scan.proofs.Subschemas.{below-opened, below-inside, root_held}
use Rattle.schema_scan.proofs.compiled.Compiled.below.Goals as goal

pub unreachable-requires : goal.unreachable-requires
unreachable-requires c =
    let s = located_view c.args.around in
    let v = value c.args.descent.schema.now in
    let way = tokens_taken c.args.descent in
    let t = below s way v in
    let is = below-opened s way v c.in-Some.id.now (sym c.in-Some.ensures) in
    let uri : t.resource ≡ without_fragment (target_uri s.resource c.in-Some.id.now) = ap (λ x. x.resource) is in
    let held : is_some (resource_root (compiled_schemas c.args.self.now) t.resource) ≡ true = root_held (compiled_schemas c.args.self.now) t c.requires (ap (λ x. x.pointer) is) in
    let there : is_some (resource_root (compiled_schemas c.args.self.now) (without_fragment (target_uri s.resource c.in-Some.id.now))) ≡ true = ap (λ u. is_some (resource_root (compiled_schemas c.args.self.now) u)) (sym uri) ∙ held in
    let none : false ≡ true = rw c.in-None-2.is at c.in_ok-resource-in-Some.ensures.held there in
    absurd (cc)

abbrev shown : Text → Pointer → Value → Schema
shown resource pointer v = record { resource = resource; pointer = pointer; value = v }

pub returns-in-Some-2 : goal.returns-in-Some-2
returns-in-Some-2 c =
    let s = located_view c.args.around in
    let v = value c.args.descent.schema.now in
    let uri : c.in-Some-2.resource.now ≡ without_fragment (target_uri s.resource c.in-Some.id.now) = rw c.in-Some-2.is at c.in_ok-resource-in-Some.ensures.same in
    ap₂ (λ r p. shown r p v) uri (ap tokens c.new.ensures.items) ∙ sym (below-opened s (tokens_taken c.args.descent) v c.in-Some.id.now (sym c.in-Some.ensures))

pub returns : goal.returns
returns c =
    let s = located_view c.args.around in
    let v = value c.args.descent.schema.now in
    ap (λ p. shown s.resource p v) c.in_ok-with_steps-in-None.ensures ∙ sym (below-inside s (tokens_taken c.args.descent) v (sym c.in-None.ensures))
