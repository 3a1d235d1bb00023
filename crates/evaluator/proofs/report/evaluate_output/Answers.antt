use Rattle.std.proofs.Common.{◌≡◌, ◌∙◌, Some, sym, ap, subst}
use Rattle.definitions.specs.Answers.{first_application}
use Rattle.definitions.specs.Targets.{resource_root}
use Rattle.json_doc.specs.Docs.{value}
use Rattle.linker.specs.LinkedDocuments.{linked_schemas, linked_uri}
use Rattle.schema_scan.specs.Locateds.{located_view}
use Rattle.evaluation_context.specs.Frames.{context_view, frame_standing}
use Rattle.evaluation_context.specs.Standings.{application_at}
use Rattle.evaluation_log.specs.Logs.{log_view}
use Rattle.evaluator.specs.Reports.{Judges, linked_answer}
use Rattle.evaluator.specs.Rounds.{root_outcome}
use Rattle.evaluator.proofs.ReportLaws.{costly_first, first_outcome, first_is_at, noted_first, output_err, output_ok, output_same, unreached_changes_nothing}
use Rattle.evaluator.proofs.report.evaluate_output.Goals as goal

pub returns : goal.returns
returns c =
    let e = c.new-evaluation.result in
    let l = e.linked.now in
    let same = ap (λ k. k.now) c.new-evaluation.ensures.linked in
    let s = located_view c.root-root.result in
    let x = value c.args.instance.now in
    let a = first_application s x in
    let o = root_outcome l a in
    let found = subst (λ k. resource_root (linked_schemas k) (linked_uri k) ≡ Some s) (sym same) c.root-root.ensures in
    let there = subst (λ k. application_at (frame_standing (context_view k)) s.value x ≡ a) (sym c.new-evaluation.ensures.place) (c.new-context.ensures.there s x c.in_ok-start.ensures) in
    let at = first_is_at l (context_view e.context) s x found there in
    let nothing = ap log_view c.new-evaluation.ensures.noted ∙ c.in_ok-log.ensures in
    let noted = noted_first c.apply_root-passed.result (log_view c.apply_root-passed.new.self.log) _ o nothing ((c.apply_root-passed.ensures.outcome a at).noted) in
    let costly = costly_first c.apply_root-passed.result _ o nothing ((c.apply_root-passed.ensures.outcome a at).err) in
    let verdict = c.judged-verdict.result in
    let judged = subst (λ u. Judges verdict u.value o) (sym c.into_units-units.ensures) (c.judged-verdict.ensures o ((c.apply_root-passed.ensures.outcome a at).found) noted costly) in
    let r = c.output_or_fault.result in
    let given = output_same r (ap (λ k. linked_answer k x) (sym same) ∙ first_outcome l s x found) (c.output_or_fault.ensures o judged) in
    record {
      ok = output_ok r _ given;
      err = output_err r _ given;
      whole = λ G distinct reached. output_same r (unreached_changes_nothing c.args.linked.now G x distinct reached) given;
    }
