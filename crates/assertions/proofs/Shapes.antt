-- The shapes that assertions ask for are told by the value alone.
use Rattle.std.proofs.Common.{◌≡◌, refl}
use Rattle.definitions.specs.Values.{Value}
use Rattle.definitions.specs.Shapes.{has_shape}
use Rattle.definitions.specs.Assertions.{Assertion, type_is, shape_of}
use Rattle.keywords.specs.Shapes.{fits_shape}

pub fits_asserted : (a : Assertion) (v : Value) → fits_shape (shape_of a) v ≡ has_shape (shape_of a) v
fits_asserted type_is v = refl
fits_asserted _ v = refl
