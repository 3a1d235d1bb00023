use Rattle.stored_rows.proofs.KeyedRegistries.{distinct_by_emptied}
use Rattle.stored_rows.proofs.laws.emptied_registries_have_the_digests.Goals as goal

pub returns : goal.returns
returns c = distinct_by_emptied
