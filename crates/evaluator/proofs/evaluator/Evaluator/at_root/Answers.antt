use Rattle.std.proofs.Common.{◌∙◌, refl, ap}
use Rattle.json_doc.specs.Docs.{value}
use Rattle.schema_scan.specs.Locateds.{located_view}
use Rattle.evaluation_context.specs.Frames.{context_view}
use Rattle.evaluation_log.specs.Logs.{log_view}
use Rattle.evaluator.proofs.ReportLaws.{stands_at_root}
use Rattle.evaluator.proofs.evaluator.Evaluator.at_root.Goals as goal

pub invariant_of-result : goal.invariant_of-result
invariant_of-result c =
    let found = c.root-root.result in
    record {
      standing = λ at_root. rw (c.new.ensures.linked, c.new.ensures.place)
          (stands_at_root c.args.linked.now (context_view c.new-context.result) (value found.schema.now) (located_view found) c.root-root.ensures refl (λ x. c.new-context.ensures.there (located_view found) x c.in_ok-start.ensures));
      nothing_noted = ap log_view c.new.ensures.noted ∙ c.in_ok-log.ensures;
    }
