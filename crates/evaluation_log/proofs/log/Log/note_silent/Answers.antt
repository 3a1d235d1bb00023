use Rattle.std.proofs.Common.{◌≡◌, [], ◌∷◌, ◌∙◌, ◌&&◌, not, false, ap, sym}
use Rattle.std.proofs.lemmas.Bool.{and_right}
use Rattle.std.proofs.lemmas.Result.{on_ok_weaker}
use Rattle.json_doc.specs.NamedMembers.{name_text}
use Rattle.evaluation_log.specs.Logs.{log_view}
use Rattle.evaluation_log.specs.Notes.{needs_to_pass, no_notes, notes_of_both}
use Rattle.evaluation_log.proofs.LogLaws.{name_after, index_after, silent_before}
use Rattle.evaluation_log.proofs.log.Log.note_silent.Goals as goal

pub returns-in-Whole : goal.returns-in-Whole
returns-in-Whole c m o silent =
    rw c.in-Whole.is (c.count_one.ensures ∙ ap (notes_of_both (log_view c.args.self.now)) (sym silent.noted))

pub returns-in-Member : goal.returns-in-Member
returns-in-Member c m o silent =
    let old = log_view c.args.self.now in
    rw c.in-Member.is
    (on_ok_weaker c.push_name.result (λ pushed.
    pushed ∙ ap (λ n. notes_of_both n (record no_notes { names = name_text c.in-Member.name ∷ [] })) (c.count_one.ensures ∙ ap (notes_of_both old) (silent_before o silent))
    ∙ name_after old o (name_text c.in-Member.name)) c.push_name.ensures)

pub returns-in-Element : goal.returns-in-Element
returns-in-Element c m o silent =
    let old = log_view c.args.self.now in
    let stays : (needs_to_pass m && not o.valid) ≡ false = and_right (needs_to_pass m) (not o.valid) (ap not silent.passes) in
    rw (c.in-Element.is, stays)
    (on_ok_weaker c.push_index.result (λ pushed.
    pushed ∙ ap (λ n. notes_of_both n (record no_notes { indexes = c.in-Element.index ∷ [] })) (c.count_one.ensures ∙ ap (notes_of_both old) (silent_before o silent))
    ∙ index_after old o c.in-Element.index) c.push_index.ensures)

pub returns-in-NameOf : goal.returns-in-NameOf
returns-in-NameOf c m o silent =
    rw c.in-NameOf.is (c.count_one.ensures ∙ ap (notes_of_both (log_view c.args.self.now)) (silent_before o silent))
