use Rattle.std.proofs.Common.{subst}
use Rattle.uri_ref.specs.Soundness.{AreSound}
use Rattle.uri_ref.proofs.Unique.{identified}
use Rattle.uri_ref.proofs.laws.identifier_splits.Goals as goal

pub returns : goal.returns
returns c = λ h. identified c.args.parts.now (subst AreSound c.parts.view_is c.parts.invariant) h
