use Rattle.std.proofs.Common.{string_bytes}
use Rattle.uri_ref.specs.Views.{parts}
use Rattle.uri_ref.proofs.Sound.{own_path, own_authority, under_base}
use Rattle.uri_ref.proofs.resolving.resolve.Goals as goal

pub invariant_of-result : goal.invariant_of-result
invariant_of-result c = own_path (parts c.reference.inside) (string_bytes c.in_ok-path.path) c.reference.invariant c.in_ok-path.ensures

pub invariant_of-result-then-is_some-2 : goal.invariant_of-result-then-is_some-2
invariant_of-result-then-is_some-2 c =
    own_authority (parts c.base.inside) (parts c.reference.inside) (string_bytes c.in_ok-path-2.path) c.base.invariant c.reference.invariant c.in_ok-path-2.ensures

pub invariant_of-result-2 : goal.invariant_of-result-2
invariant_of-result-2 c =
    under_base (parts c.base.inside) c.args.base.now (parts c.reference.inside) (string_bytes c.in_ok-path-3.path) c.base.invariant c.reference.invariant c.base.view_is c.in_ok-path-3.ensures
