use Rattle.std.proofs.Common.{map, string_bytes, ap, ◌∙◌}
use Rattle.std.proofs.lemmas.Option.{same_Some, none-some}
use Rattle.std.specs.List.{slice_get}
use Rattle.schema_table.specs.Gathering.{table_uris}
use Rattle.schema_scan.proofs.Owned.{owned-canonical}
use Rattle.schema_scan.proofs.compiled.Compiled.canonical.Goals as goal

pub returns-in-Some : goal.returns-in-Some
unfolding table_uris
returns-in-Some c = same_Some _ _ (c.in-Some.ensures ∙ ap (λ us. slice_get (map string_bytes us) 0) c.deref.ensures.value ∙ owned-canonical c.args.self.now)

pub returns-in-None : goal.returns-in-None
unfolding table_uris
returns-in-None c = absurd (none-some _ (c.in-None.ensures ∙ ap (λ us. slice_get (map string_bytes us) 0) c.deref.ensures.value ∙ owned-canonical c.args.self.now))
