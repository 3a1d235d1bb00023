use Rattle.std.proofs.Common.{◌≡◌, true}
use Rattle.std.specs.List.{list_all}
use Rattle.json_doc.specs.Docs.{members_value}
use Rattle.json_doc.specs.NamedMembers.{named_left}
use Rattle.applicators.specs.Subjects.{subject_value}
use Rattle.evaluator.specs.Silences.{is_met_alone}
use Rattle.evaluator.proofs.applying.Evaluation.are_met.Given as goal

-- where the members hold that are left, all do
abbrev pub invariant-loop-name : goal.invariant-loop-name
invariant-loop-name l =
    record {
      linked : l.self.linked ≡ l.fn.self.linked;
      context : l.self.context ≡ l.fn.self.context;
      log : l.self.log ≡ l.fn.self.log;
      met : list_all (is_met_alone (subject_value l.fn.subject)) (named_left l.name-iterator) ≡ true
          → list_all (is_met_alone (subject_value l.fn.subject)) (members_value l.fn.members) ≡ true;
    }
