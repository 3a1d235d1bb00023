use Rattle.std.proofs.Common.{◌||◌, map, ap, ◌∙◌}
use Rattle.std.proofs.lemmas.Result.{on_ok_weaker}
use Rattle.std.specs.List.{list_any}
use Rattle.schema_table.specs.Lookups.{has_dynamic_mark}
use Rattle.schema_scan.specs.DynamicResources.{has_resource}
use Rattle.schema_table.specs.Gathering.{anchor_mark, table_marks}
use Rattle.schema_scan.proofs.Owned.{owned-dynamic_held}
use Rattle.schema_scan.proofs.compiled.Compiled.add_dynamic_resources.Goals as goal

pub returns : goal.returns
unfolding table_marks
returns c =
    let d = c.args.self.now in
    on_ok_weaker c.add_resources.result
    (λ added uri name.
    added uri name
    ∙ ap (λ anchors. has_resource c.args.resources.now uri name || list_any (has_dynamic_mark uri name) (map anchor_mark anchors)) c.deref.ensures.value
    ∙ ap (λ b. has_resource c.args.resources.now uri name || b) (owned-dynamic_held d uri name))
    c.add_resources.ensures
