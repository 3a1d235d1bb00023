-- What a pattern stands for whose machine is held.
use Rattle.std.specs.RefCell.{ref_mut_value}
use Rattle.definitions.specs.Values.{Text}
use Rattle.patterns.specs.declared.held.HeldPattern.{HeldPattern}

-- its text
abbrev pub held_text : HeldPattern → Text
held_text h = ref_mut_value h.machine
