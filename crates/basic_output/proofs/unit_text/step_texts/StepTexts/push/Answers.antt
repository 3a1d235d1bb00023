use Rattle.basic_output.proofs.unit_text.step_texts.StepTexts.push.Goals as goal

pub returns-in-Err-clause-texts : goal.returns-in-Err-clause-texts
returns-in-Err-clause-texts c = λ ss less is are. c.clear.ensures c.args.notation ss
