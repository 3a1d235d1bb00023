-- Contexts of which the texts of the locations are written.
use Rattle.std.specs.Prelude.{◌≡◌, is_some, true}
use Rattle.basic_output.specs.WrittenPointers.{IsWritten, IsWrittenOnward}
use Rattle.evaluation_context.specs.declared.context.Context.{Context}

pub record AreWritten (c : Context) : Type 0 where
  pub origin : is_some c.origin.value.head ≡ true
  pub path : IsWrittenOnward c.running.path c.onward
  pub instance_location : IsWritten c.running.instance_location
