-- What the test of equality says (JSON Schema 2020-12 Core, 4.2.2).
use Rattle.std.specs.Prelude.{◌≡◌, ◌↔◌, IsTrue}
use Rattle.definitions.specs.Values.{Value, same}

-- values that are the same by it are one value, and the other way round
abbrev pub EqualValuesAreOne : Type 0
EqualValuesAreOne = (v w : Value) → IsTrue (same v w) ↔ (v ≡ w)
