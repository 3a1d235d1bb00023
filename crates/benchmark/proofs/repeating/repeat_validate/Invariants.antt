use Rattle.std.proofs.Common.{◌≡◌, ◌≤◌}
use Rattle.definitions.specs.Answers.{answer}
use Rattle.definitions.specs.Patterns.{has_match}
use Rattle.evaluator.specs.Reports.{report_or_fault}
use Rattle.json_doc.specs.Docs.{value}
use Rattle.linker.specs.LinkedDocuments.{linked_documents, linked_uri}
use Rattle.benchmark.specs.Counts.{valid_count}
use Rattle.benchmark.proofs.repeating.repeat_validate.Given as goal

abbrev pub invariant-loop : goal.invariant-loop
invariant-loop l = (l.valid ≤ l.counter) × (l.valid ≡ valid_count (report_or_fault (answer has_match (linked_documents l.fn.linked) (linked_uri l.fn.linked) (value l.fn.instance))) l.counter)
