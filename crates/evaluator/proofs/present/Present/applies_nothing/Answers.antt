use Rattle.std.proofs.Common.{◌≡◌, Bool, true, false, not, refl, arith}
use Rattle.std.proofs.lemmas.Bool.{and_parts}
use Rattle.json_doc.specs.Docs.{value}
use Rattle.keywords.specs.Rows.{row_of}
use Rattle.keywords.specs.declared.keyword.Keyword.TheVariants.{AllOf, Pattern}
use Rattle.evaluator.proofs.LeafLaws.{marked_leaf}
use Rattle.evaluator.proofs.PresentLaws.{number_below}
use Rattle.evaluator.proofs.present.Present.applies_nothing.Goals as goal

pub overflow_add-pattern : goal.overflow_add-pattern
overflow_add-pattern c = let below = number_below (row_of Pattern).name in omega (arith, below, c.group_number-pattern.ensures)

pub lacks-lacks_pattern-requires : goal.lacks-lacks_pattern-requires
lacks-lacks_pattern-requires c = let below = number_below (row_of Pattern).name in omega (arith, below, c.group_number-pattern.ensures)

pub lacks-lacks_others-requires : goal.lacks-lacks_others-requires
lacks-lacks_others-requires c = let below = number_below (row_of AllOf).name in omega (arith, below, c.group_number-2.ensures)

turned : (b : Bool) → not b ≡ true → b ≡ false
turned true e = absurd (cc)
turned false e = refl

pub returns : goal.returns
returns c all =
    let last = and_parts _ _ all in
    let three = and_parts _ _ last.0 in
    let two = and_parts _ _ three.0 in
    marked_leaf (value c.args.self.now.schema.now)
    (rw (← c.group_number.ensures) (c.lacks-lacks_references.ensures two.0))
    (rw (← c.group_number-pattern.ensures) (c.lacks-lacks_pattern.ensures two.1))
    (rw (← c.group_number-2.ensures, ← c.group_number-3.ensures) (c.lacks-lacks_others.ensures three.1))
    (c.looks_at_evaluated-looks_at_evaluated.ensures (turned c.looks_at_evaluated-looks_at_evaluated.result last.1))
