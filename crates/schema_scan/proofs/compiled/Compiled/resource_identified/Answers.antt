use Rattle.std.proofs.Common.{◌≡◌, Option, Some, None, Bor, IfSome, map, option_map, string_bytes, ap, ◌∙◌}
use Rattle.std.proofs.lemmas.Option.{same_Some}
use Rattle.std.specs.List.{slice_get}
use Rattle.definitions.specs.Values.{Text}
use Rattle.schema_table.specs.Gathering.{table_uris}
use Rattle.schema_scan.proofs.Known.{identified-only}
use Rattle.schema_scan.proofs.compiled.Compiled.resource_identified.Goals as goal

is-there : (r : Option (Bor Text)) (uri : Text) → option_map (λ (u : Bor Text). u.now) r ≡ Some uri → IfSome r (λ u. u.now ≡ uri)
is-there None uri e = tt
is-there (Some u) uri e = same_Some _ _ e

pub returns-in-Some : goal.returns-in-Some
unfolding table_uris
returns-in-Some c = λ s inside root has.
    let d = c.args.self.now in
    let told = c.in-Some.ensures in
    is-there c.numbered.result s.resource
    (c.numbered.ensures ∙ ap (λ ts. slice_get (map string_bytes ts) c.in-Some.number) c.deref.ensures.value ∙ ap (slice_get (table_uris d.table)) told.0
    ∙ identified-only d s c.args.id.now inside root has d.by_identifier told.1)
