use Rattle.std.proofs.Common.{◌++◌, ◌∷◌, ap, ◌∙◌}
use Rattle.basic_output.specs.Buffers.{buffer_text}
use Rattle.basic_output.specs.Parts.{text_of_unit}
use Rattle.basic_output.specs.Sayings.{says_value}
use Rattle.basic_output.proofs.BufferLaws.{written_behind, written_in}
use Rattle.basic_output.proofs.UnitLaws.{unit_parts}
use Rattle.basic_output.proofs.unit_text.append_unit.Goals as goal

pub invariant_of-out : goal.invariant_of-out
invariant_of-out c =
    let is = written_in c.make_room.new.self c.as_mut_slice.ensures.value c.write_unit-out.ensures.len c.write_unit-out.ensures.written in
    record { within = is.within; utf8 = written_behind c.make_room.new.self is }

pub returns : goal.returns
unfolding buffer_text
returns c =
    let is = written_in c.make_room.new.self c.as_mut_slice.ensures.value c.write_unit-out.ensures.len c.write_unit-out.ensures.written in
    is.written
    ∙ ap (λ t. buffer_text c.make_room.new.self ++ 44 ∷ t) (unit_parts c.args.annotates c.args.location (says_value c.args.says) c.in_ok-message.message c.in_ok-message.ensures)
    ∙ ap (λ t. t ++ 44 ∷ text_of_unit c.args.annotates c.args.location (says_value c.args.says)) c.in_ok-make_room.ensures.text
