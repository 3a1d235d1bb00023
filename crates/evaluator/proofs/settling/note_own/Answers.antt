use Rattle.std.proofs.Common.{◌∙◌, ap, drop, map}
use Rattle.std.proofs.lemmas.Result.{on_ok_weaker}
use Rattle.definitions.specs.Evaluated.{once}
use Rattle.json_doc.specs.NamedMembers.{name_text}
use Rattle.basic_output.specs.Units.{unit_texts}
use Rattle.evaluation_log.specs.Notes.{Lengths, notes_of_both}
use Rattle.evaluation_log.specs.Logs.{log_view}
use Rattle.evaluator.specs.Rounds.{use_there}
use Rattle.evaluation_log.specs.declared.log.Before.{Before}
use Rattle.output_texts.specs.declared.noted_units.NotedUnits.{NotedUnits}
use Rattle.evaluation_log.proofs.LogLaws.{same_notes, rest_list, errors_of, annotations_of, names_of, indexes_of, tally_of}
use Rattle.evaluator.proofs.SettlingLaws.{names_of_patterns, names_of_others}
use Rattle.evaluator.proofs.settling.note_own.Goals as goal

pub returns-in_ok-names-in-PatternProperties-clause-noted : goal.returns-in_ok-names-in-PatternProperties-clause-noted
unfolding log_view notes_of_both
returns-in_ok-names-in-PatternProperties-clause-noted c l left a names indexes v older more inst count under m e own_names own_indexes =
    let log = c.args.log.now in
    let u = use_there l left a c.args.keyword names indexes v in
    let later = c.evaluated_since-evaluated.ensures.names ∙ ap (λ (b : Before). drop b.names (map name_text c.deref.result.now)) c.before-2.ensures
    ∙ ap (λ ns. drop c.args.mark.now.names (map name_text ns)) c.deref.ensures.value
    ∙ rest_list c.args.mark.now.names older.names more.names (log_view log).names (ap (λ (k : Lengths). k.names) m) (names_of (log_view log) older more e) ∙ own_names in
    let later_indexes = c.evaluated_since-evaluated.ensures.indexes ∙ ap (λ (b : Before). drop b.indexes c.deref-2.result.now) c.before-2.ensures
    ∙ ap (λ is. drop c.args.mark.now.indexes is) c.deref-2.ensures.value
    ∙ rest_list c.args.mark.now.indexes older.indexes more.indexes (log_view log).indexes (ap (λ (k : Lengths). k.indexes) m) (indexes_of (log_view log) older more e) ∙ own_indexes in
    let told = c.insert_own.ensures.noted l left a names indexes v older.annotations more.annotations inst count under (ap (λ (k : Lengths). k.annotations) m)
    (ap (λ (u : NotedUnits). unit_texts u.annotations) c.deref_mut.ensures.value ∙ annotations_of (log_view log) older more e)
    (ap (map name_text) c.deref-in-PatternProperties.ensures.value ∙ c.in_ok-names-in-PatternProperties.ensures ∙ ap once later ∙ names_of_patterns c.args.keyword u.names c.in-PatternProperties.is) later_indexes in
    on_ok_weaker c.insert_own.result
    (λ inserted. same_notes (ap (λ (u : NotedUnits). unit_texts u.errors) c.deref_mut.ensures.value ∙ errors_of (log_view log) older more e) inserted (names_of (log_view log) older more e) (indexes_of (log_view log) older more e) (tally_of (log_view log) older more e)) told

pub returns-in_default-clause-noted : goal.returns-in_default-clause-noted
unfolding log_view notes_of_both
returns-in_default-clause-noted c l left a names indexes v older more inst count under m e own_names own_indexes =
    let log = c.args.log.now in
    let u = use_there l left a c.args.keyword names indexes v in
    let later = c.evaluated_since-evaluated.ensures.names ∙ ap (λ (b : Before). drop b.names (map name_text c.deref.result.now)) c.before-2.ensures
    ∙ ap (λ ns. drop c.args.mark.now.names (map name_text ns)) c.deref.ensures.value
    ∙ rest_list c.args.mark.now.names older.names more.names (log_view log).names (ap (λ (k : Lengths). k.names) m) (names_of (log_view log) older more e) ∙ own_names in
    let later_indexes = c.evaluated_since-evaluated.ensures.indexes ∙ ap (λ (b : Before). drop b.indexes c.deref-2.result.now) c.before-2.ensures
    ∙ ap (λ is. drop c.args.mark.now.indexes is) c.deref-2.ensures.value
    ∙ rest_list c.args.mark.now.indexes older.indexes more.indexes (log_view log).indexes (ap (λ (k : Lengths). k.indexes) m) (indexes_of (log_view log) older more e) ∙ own_indexes in
    let told = c.insert_own-in_default.ensures.noted l left a names indexes v older.annotations more.annotations inst count under (ap (λ (k : Lengths). k.annotations) m)
    (ap (λ (u : NotedUnits). unit_texts u.annotations) c.deref_mut-in_default.ensures.value ∙ annotations_of (log_view log) older more e)
    (later ∙ names_of_others c.args.keyword u.names c.in_default.not-PatternProperties) later_indexes in
    on_ok_weaker c.insert_own-in_default.result
    (λ inserted. same_notes (ap (λ (u : NotedUnits). unit_texts u.errors) c.deref_mut-in_default.ensures.value ∙ errors_of (log_view log) older more e) inserted (names_of (log_view log) older more e) (indexes_of (log_view log) older more e) (tally_of (log_view log) older more e)) told
