use Rattle.std.proofs.Common.{◌≡◌, drop}
use Rattle.tenant_hub.specs.KeyedRegistries.{position_of}
use Rattle.tenant_hub.proofs.answering.position_of.Given as goal

abbrev pub invariant-loop-position : goal.invariant-loop-position
invariant-loop-position l = position_of l.key l.position (drop l.position l.registries) ≡ position_of l.key 0 l.registries
