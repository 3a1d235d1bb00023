use Rattle.basic_output.proofs.BufferLaws.{written_on}
use Rattle.basic_output.proofs.unit_text.write_unit.Goals as goal

pub returns-clause-written : goal.returns-clause-written
returns-clause-written c =
    written_on c.write-head.ensures.written
    (written_on c.write-onward.ensures.written
    (written_on c.write-opening.ensures.written
    (written_on c.write_opening-message.ensures.written
    (written_on c.write-ending.ensures.written
    (written_on c.write_ending-instance_location.ensures.written
    (written_on c.write-key.ensures.written
    (written_on c.write-path.ensures.written
    (written_on c.write-end.ensures.written c.write.ensures.written))))))))
