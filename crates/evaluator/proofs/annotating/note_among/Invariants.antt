use Rattle.std.proofs.Common.{◌≡◌}
use Rattle.definitions.specs.Applied.{Application}
use Rattle.json_doc.specs.Docs.{value}
use Rattle.json_doc.specs.NamedMembers.{named_left}
use Rattle.json_doc.specs.Members.{members_left}
use Rattle.keyword_plans.specs.ScopeViews.{scope_documents}
use Rattle.applicators.specs.Subjects.{subject_value}
use Rattle.evaluation_context.specs.Frames.{context_view, frame_standing}
use Rattle.evaluation_context.specs.Standings.{standing_of}
use Rattle.evaluator.specs.Annotations.{annotations_among}
use Rattle.evaluation_log.specs.Logs.{log_view}
use Rattle.evaluation_log.specs.Notes.{annotation_texts, no_notes, notes_of_both}
use Rattle.evaluator.proofs.annotating.note_among.Given as goal

-- what was noted, and what the members that are left add
abbrev pub invariant-loop-name : goal.invariant-loop-name
invariant-loop-name l =
    record {
      back : context_view l.context ≡ context_view l.initial.context;
      documents : scope_documents l.context.scope ≡ scope_documents l.initial.context.scope;
      noted : (a : Application) → frame_standing (context_view l.initial.context) ≡ standing_of a → a.schema.value ≡ value l.schema → a.instance ≡ subject_value l.subject
          → notes_of_both (log_view l.log) (record no_notes { annotations = annotation_texts (annotations_among a (named_left l.name-iterator)) })
          ≡ notes_of_both (log_view l.initial.log) (record no_notes { annotations = annotation_texts (annotations_among a (members_left l.fn.members)) });
    }
