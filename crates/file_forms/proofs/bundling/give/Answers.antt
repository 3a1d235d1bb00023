use Rattle.std.proofs.Common.{IfOk, option_map, refl, subst, sym}
use Rattle.std.proofs.lemmas.Result.{IfErr-weaker, IfOk-weaker}
use Rattle.file_forms.specs.Bundles.{IsGivenBundle}
use Rattle.file_forms.proofs.Ended.{has_no_bundle, is_given, unwritten}
use Rattle.file_forms.proofs.bundling.give.Goals as goal

pub returns-in-Err-clause-err : goal.returns-in-Err-clause-err
returns-in-Err-clause-err g c = has_no_bundle c.args.linked.now c.args.bundling.now.schema.now _ c.in-Err.fault c.refused.result c.in-Err.ensures.err c.refused.ensures

pub returns-in-None-clause-ok : goal.returns-in-None-clause-ok
returns-in-None-clause-ok g c =
    subst (λ o. IsGivenBundle (g.F.Folders.has_written c.args.files.now) (option_map (λ p. p.now) o) c.args.linked.now (g.C.Console.printed c.args.console.now) (g.C.Console.printed c.print.new.self)) (sym c.in-None.is)
    (is_given (g.F.Folders.has_written c.args.files.now) c.args.linked.now _ _ c.as_str.result.now _ _ c.in-Ok.ensures.ok c.as_str.ensures.value c.print.ensures.printed)

pub returns-clause-ok : goal.returns-clause-ok
returns-clause-ok g c =
    subst (λ o. IfOk c.write.result (λ _. IsGivenBundle (g.F.Folders.has_written c.args.files.now) (option_map (λ p. p.now) o) c.args.linked.now (g.C.Console.printed c.args.console.now) (g.C.Console.printed c.args.console.now))) (sym c.in-Some.is)
    (IfOk-weaker c.write.result _ _
    (λ u h. is_given (g.F.Folders.has_written c.args.files.now) c.args.linked.now _ _ c.as_str-in-Some.result.now _ _ c.in-Ok.ensures.ok c.as_str-in-Some.ensures.value (h, refl)) c.write.ensures.ok)

pub returns-clause-err : goal.returns-clause-err
returns-clause-err g c =
    IfErr-weaker c.write.result _ _
    (λ trouble h. unwritten c.args.linked.now c.args.bundling.now.schema.now c.args.bundling.now.out c.in-Some.path trouble c.in-Some.is h) c.write.ensures.err
