use Rattle.std.proofs.Common.{ap, ◌∙◌, ◌-◌, take, drop}
use Rattle.std.specs.List.{fold}
use Rattle.text_places.specs.Positions.{next_position, first_position}
use Rattle.text_places.proofs.Parts.{fold_on}
use Rattle.text_places.proofs.position.Positions.move_on.Goals as goal

pub invariant_of-self-clause-right : goal.invariant_of-self-clause-right
invariant_of-self-clause-right c =
    let s = c.args.self.now in
    let text = s.text.now in
    c.position_after-position.ensures.after
    ∙ ap (λ p. fold next_position p (take (c.args.end - s.offset) (drop s.offset text))) s.right
    ∙ fold_on next_position first_position text s.offset c.args.end c.requires.0
