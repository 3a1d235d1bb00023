-- Where a folder may be.
use Rattle.std.specs.Prelude.{◌&&◌, Bool, not, Option, is_none}
use Rattle.definitions.specs.Values.{Text}

-- neither is it known what a file there holds, nor that it can't be read
abbrev pub may_be_folder : (Text → Option Text) → (Text → Bool) → Text → Bool
may_be_folder files unreadable path = is_none (files path) && not (unreadable path)
