use Rattle.std.proofs.Common.{◌≡◌, Some, drop, option_map, ap, ap₂, ◌∙◌}
use Rattle.definitions.specs.Pointers.{Pointer}
use Rattle.definitions.specs.Schemas.{Schema}
use Rattle.definitions.specs.Values.{Text, Value}
use Rattle.json_doc.specs.Docs.{value}
use Rattle.locations.specs.Steps.{tokens}
use Rattle.locations.specs.Hops.{follow, hop_tokens}
use Rattle.schema_table.specs.Lookups.{marked_schema}
use Rattle.locations.specs.Ways.{owned_hops}
use Rattle.schema_scan.proofs.Marked.{tokens-hops}
use Rattle.schema_scan.proofs.located.schema_of_anchor.Goals as goal

abbrev schema_with : Text → Pointer → Value → Schema
schema_with uri p v = record { resource = uri; pointer = p; value = v }

pub returns-in_ok-steps_after-in-Some : goal.returns-in_ok-steps_after-in-Some
unfolding marked_schema
returns-in_ok-steps_after-in-Some c =
    let anchor = c.args.anchor.now in
    let document = value c.args.document.now in
    let steps = c.in_ok-steps_after-in-Some.field-0.items in
    let there : Some (value c.in-Some.schema.now) ≡ follow (owned_hops anchor.way) document = c.in-Some.ensures in
    let pointer : tokens steps ≡ hop_tokens (drop anchor.start (owned_hops anchor.way)) =
    tokens-hops steps ∙ ap hop_tokens c.in_ok-steps_after-in-Some.ensures in
    ap₂ (λ u p. Some (schema_with u p (value c.in-Some.schema.now))) c.as_str.ensures.value pointer
    ∙ ap (option_map (schema_with _ (hop_tokens (drop anchor.start (owned_hops anchor.way))))) there
