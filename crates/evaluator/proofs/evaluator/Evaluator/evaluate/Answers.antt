use Rattle.std.proofs.Common.{◌∙◌, sym, ap}
use Rattle.lemmas.proofs.Options.{some_from_is_some}
use Rattle.definitions.specs.Answers.{first_application}
use Rattle.definitions.specs.Targets.{resource_root}
use Rattle.json_doc.specs.Docs.{value}
use Rattle.linker.specs.LinkedDocuments.{linked_schemas, linked_uri}
use Rattle.evaluation_context.specs.Frames.{context_view}
use Rattle.evaluator.specs.Evaluators.{evaluator_linked}
use Rattle.evaluation_log.specs.Logs.{log_view}
use Rattle.evaluator.specs.Reports.{linked_answer}
use Rattle.evaluator.specs.Rounds.{root_outcome}
use Rattle.evaluator.proofs.ReportLaws.{costly_first, first_outcome, gives_err, gives_ok, gives_same, is_at_root, noted_first, unreached_changes_nothing}
use Rattle.evaluator.proofs.evaluator.Evaluator.evaluate.Goals as goal

pub returns : goal.returns
returns c =
    let e = c.return_to_root.new.self in
    let l = evaluator_linked e in
    let same = c.in_ok-return_to_root.ensures.same in
    let x = value c.args.instance.now in
    let stands = e.standing c.in_ok-return_to_root.ensures.there in
    let found = some_from_is_some (resource_root (linked_schemas l) (linked_uri l)) stands.found in
    let a = first_application found.0 x in
    let o = root_outcome l a in
    let at = is_at_root l (context_view e.evaluation.context) (value e.schema.now) x found.0 stands found.1 in
    let noted = noted_first c.apply_root-passed.result (log_view c.apply_root-passed.new.self.log) _ o e.nothing_noted ((c.apply_root-passed.ensures.outcome a at).noted) in
    let costly = costly_first c.apply_root-passed.result _ o e.nothing_noted ((c.apply_root-passed.ensures.outcome a at).err) in
    let r = c.reported-report.result in
    let given = gives_same r (ap (λ m. linked_answer m x) (sym same) ∙ first_outcome l found.0 x found.1) (c.reported-report.ensures o ((c.apply_root-passed.ensures.outcome a at).found) noted costly) in
    record {
      ok = gives_ok r _ given;
      err = gives_err r _ given;
      whole = λ G distinct reached. gives_same r (unreached_changes_nothing (evaluator_linked c.args.self.now) G x distinct reached) given;
      same = ap (λ k. k.now) c.apply_root-passed.ensures.stays.linked ∙ same;
    }
