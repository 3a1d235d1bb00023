-- An anchor: the URI of its resource, and its name.
use Rattle.std.specs.Borrow.{Bor}
use Rattle.definitions.specs.Values.{Text}

abbrev pub anchor_view : Bor Text × Bor Text → Text × Text
anchor_view a = (a.0.now, a.1.now)
