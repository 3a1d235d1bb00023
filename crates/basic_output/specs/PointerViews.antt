-- Pointers as lists of tokens, and where they begin.
use Rattle.std.specs.Prelude.{◌-◌, ℕ, drop, length}
use Rattle.definitions.specs.Pointers.{Pointer}
use Rattle.definitions.specs.Schemas.{Identity}
use Rattle.locations.specs.Steps.{tokens}
use Rattle.basic_output.specs.declared.origin.Origin.{Origin}
use Rattle.basic_output.specs.declared.written_pointer.WrittenPointer.{WrittenPointer}

unfoldable pub pointer_view : WrittenPointer → Pointer
pointer_view p = tokens p.steps.items

-- the last steps, so many
abbrev pub onward_pointer : WrittenPointer → ℕ → Pointer
onward_pointer path onward = drop (length (pointer_view path) - onward) (pointer_view path)

-- the URI of the resource, and the pointer from its root
unfoldable pub origin_view : Origin → Identity
origin_view o = (o.resource.now, tokens o.steps.items)
