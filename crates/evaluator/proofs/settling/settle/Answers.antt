use Rattle.std.proofs.Common.{◌≡◌, [], ◌∷◌, ◌∙◌, None, false, ap, sym, subst, OnOk}
use Rattle.definitions.specs.Values.{Text}
use Rattle.basic_output.specs.Pieces.{unit_text}
use Rattle.basic_output.specs.Sayings.{says_value}
use Rattle.basic_output.specs.declared.says.Says.TheVariants.{NotMet}
use Rattle.keywords.specs.Rows.{row_of}
use Rattle.evaluation_context.specs.Frames.{context_view}
use Rattle.evaluation_log.specs.Logs.{log_view}
use Rattle.evaluation_log.specs.Notes.{Notes, notes_of_both, parts_notes, visible_notes}
use Rattle.evaluator.specs.Rounds.{use_there}
use Rattle.evaluator.proofs.SettlingLaws.{failing_settled, indexes_settled, names_settled, own_none, passing_settled, unit_under}
use Rattle.evaluator.proofs.settling.settle.Goals as goal

-- where it passes
pub returns-then-annotates-clause-noted : goal.returns-then-annotates-clause-noted
returns-then-annotates-clause-noted c l left a names indexes v older inst count passes under m e =
    let k = c.args.keyword in
    let u = use_there l left a k names indexes v in
    let meaning = (row_of k).meaning in
    let seen = visible_notes meaning (parts_notes meaning u.outcomes) in
    subst (λ (n : Notes). OnOk c.note_own.result (log_view c.note_own.new.log ≡ notes_of_both older n)) (passing_settled l left a k names indexes v (sym c.if-passes.true ∙ passes))
    (c.note_own.ensures.noted l left a names indexes v older (record seen { errors = [] }) inst count under m
    (c.cut_errors.ensures older seen m (c.hide.ensures older (parts_notes meaning u.outcomes) m e)) (names_settled l left a k names indexes v) (indexes_settled l left a k names indexes v))

-- where it has no annotation of its own
pub returns-else-annotates-clause-noted : goal.returns-else-annotates-clause-noted
returns-else-annotates-clause-noted c l left a names indexes v older inst count passes under m e =
    let k = c.args.keyword in
    let u = use_there l left a k names indexes v in
    let meaning = (row_of k).meaning in
    let seen = visible_notes meaning (parts_notes meaning u.outcomes) in
    let none : None ≡ u.annotation = sym (c.annotates.ensures.none a u.outcomes c.if-annotates.false) in
    c.cut_errors.ensures older seen m (c.hide.ensures older (parts_notes meaning u.outcomes) m e)
    ∙ ap (notes_of_both older) (ap (λ ts. record seen { errors = []; annotations = ts }) (own_none a u seen.annotations none)
    ∙ passing_settled l left a k names indexes v (sym c.if-passes.true ∙ passes))

-- where it fails
pub returns-in_ok-insert_error-clause-noted : goal.returns-in_ok-insert_error-clause-noted
returns-in_ok-insert_error-clause-noted c l left a names indexes v older inst count passes under m e =
    let k = c.args.keyword in
    let u = use_there l left a k names indexes v in
    let meaning = (row_of k).meaning in
    let seen = visible_notes meaning (parts_notes meaning u.outcomes) in
    c.in_ok-insert_error.ensures older (record seen { annotations = [] }) m (c.cut_annotations.ensures older seen m (c.hide.ensures older (parts_notes meaning u.outcomes) m e))
    ∙ ap (λ (unit : Text). notes_of_both older (record seen { annotations = []; errors = unit ∷ seen.errors }))
    (c.location.ensures false (says_value (NotMet k))
    ∙ ap (unit_text false) (unit_under (context_view c.args.context.now) (context_view c.write_locations.new.self) (row_of k).name a (says_value (NotMet k)) c.write_locations.ensures.same under))
    ∙ ap (notes_of_both older) (failing_settled l left a k names indexes v (sym c.if-passes.false ∙ passes))
