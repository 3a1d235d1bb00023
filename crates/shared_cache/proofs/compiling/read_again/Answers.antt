use Rattle.std.proofs.Common.{ap, sym, ◌∙◌}
use Rattle.shared_cache.specs.Readings.{read_value}
use Rattle.shared_cache.proofs.ReadValues.{spelled}
use Rattle.shared_cache.proofs.compiling.read_again.Goals as goal

pub returns-in-Ok-clause-ok : goal.returns-in-Ok-clause-ok
returns-in-Ok-clause-ok c = sym (spelled _ _ c.in-Ok.ensures.ok) ∙ ap read_value (c.as_bytes.ensures.value ∙ c.text.ensures)
