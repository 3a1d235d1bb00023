use Rattle.service_forms.proofs.service.run_over.Goals as goal

pub returns-in-Err-clause-ran : goal.returns-in-Err-clause-ran
returns-in-Err-clause-ran g c = c.in-Err.ensures
