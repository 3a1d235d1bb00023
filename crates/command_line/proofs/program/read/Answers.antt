use Rattle.std.proofs.Common.{◌≡◌, ◌∙◌, [], ap, map, subst}
use Rattle.std.proofs.lemmas.Result.{err_from_is_err_and}
use Rattle.clap.specs.Words.{FailsBy, HasKind, fault_of, subcommand_of}
use Rattle.command_line.specs.Commands.{program}
use Rattle.command_line.specs.Calls.{asked_call, conflict_of, faults_of}
use Rattle.command_line.proofs.FormLemmas.{asks_faults, first_kind, memory_alone, next_kind, no_fault, none_of, spelled_call}
use Rattle.command_line.proofs.program.read.Goals as goal

-- ---- the words are a call
pub returns-clause-forms : goal.returns-clause-forms
returns-clause-forms g c = λ call s.
    c.in_ok-call.ensures ∙ ap asked_call c.in_ok-found.ensures.ok ∙ spelled_call (map g.S.AsStr.text c.args.words.now) call s

pub returns-clause-requests : goal.returns-clause-requests
returns-clause-requests g c = λ kind a.
    let words = map g.S.AsStr.text c.args.words.now in
    subst (λ kinds. kinds ≡ []) (asks_faults words kind a)
    (none_of _ _ c.in_ok-found.ensures.err (subst (λ o. conflict_of o ≡ []) c.in_ok-found.ensures.ok c.in_ok-refuse.ensures))

pub returns-clause-calls : goal.returns-clause-calls
returns-clause-calls g c = λ call m. c.in_ok-call.ensures ∙ ap asked_call c.in_ok-found.ensures.ok ∙ m.1

pub returns-clause-err : goal.returns-clause-err
returns-clause-err g c =
    none_of _ _ c.in_ok-found.ensures.err (subst (λ o. conflict_of o ≡ []) c.in_ok-found.ensures.ok c.in_ok-refuse.ensures)

-- ---- something is wrong with them
found_kind : goal.returns-in_err-found-clause-err
found_kind g c =
    let words = map g.S.AsStr.text c.args.words.now in
    let p = err_from_is_err_and c.from_residual.result c.from_residual.ensures.1 in
    rw (p.1, p.2) (first_kind (fault_of program words) (conflict_of (subcommand_of program words)) c.in_err-found.field-0.0 c.in_err-found.ensures.err)

pub returns-in_err-found-clause-forms : goal.returns-in_err-found-clause-forms
returns-in_err-found-clause-forms g c = λ call s.
    let words = map g.S.AsStr.text c.args.words.now in
    let p = err_from_is_err_and c.from_residual.result c.from_residual.ensures.1 in
    rw (p.1, p.2) (memory_alone words call s c.in_err-found.field-0.0 (first_kind (fault_of program words) (conflict_of (subcommand_of program words)) c.in_err-found.field-0.0 c.in_err-found.ensures.err))

pub returns-in_err-found-clause-requests : goal.returns-in_err-found-clause-requests
returns-in_err-found-clause-requests g c = λ kind a.
    subst (λ kinds. FailsBy kinds c.from_residual.result) (asks_faults (map g.S.AsStr.text c.args.words.now) kind a) (found_kind g c)

pub returns-in_err-found-clause-calls : goal.returns-in_err-found-clause-calls
returns-in_err-found-clause-calls g c = λ call m.
    let words = map g.S.AsStr.text c.args.words.now in
    let p = err_from_is_err_and c.from_residual.result c.from_residual.ensures.1 in
    rw (p.1, p.2) (no_fault (faults_of words) m.0 c.in_err-found.field-0.0 (first_kind (fault_of program words) (conflict_of (subcommand_of program words)) c.in_err-found.field-0.0 c.in_err-found.ensures.err))

pub returns-in_err-found-clause-err : goal.returns-in_err-found-clause-err
returns-in_err-found-clause-err g c = found_kind g c

-- ---- words exclude one another
pub returns-in_err-refuse-clause-forms : goal.returns-in_err-refuse-clause-forms
returns-in_err-refuse-clause-forms g c = λ call s.
    let words = map g.S.AsStr.text c.args.words.now in
    let p = err_from_is_err_and c.from_residual-in_err-refuse.result c.from_residual-in_err-refuse.ensures.1 in
    rw (p.1, p.2) (memory_alone words call s c.in_err-refuse.field-0.0
    (next_kind (fault_of program words) (conflict_of (subcommand_of program words)) c.in_err-refuse.field-0.0 c.in_ok-found.ensures.err
    (subst (λ o. HasKind (conflict_of o) c.in_err-refuse.field-0.0) c.in_ok-found.ensures.ok c.in_err-refuse.ensures)))

pub returns-in_err-refuse-clause-requests : goal.returns-in_err-refuse-clause-requests
returns-in_err-refuse-clause-requests g c = λ kind a.
    let words = map g.S.AsStr.text c.args.words.now in
    let p = err_from_is_err_and c.from_residual-in_err-refuse.result c.from_residual-in_err-refuse.ensures.1 in
    rw (p.1, p.2) (subst (λ kinds. HasKind kinds c.in_err-refuse.field-0.0) (asks_faults words kind a)
    (next_kind (fault_of program words) (conflict_of (subcommand_of program words)) c.in_err-refuse.field-0.0 c.in_ok-found.ensures.err
    (subst (λ o. HasKind (conflict_of o) c.in_err-refuse.field-0.0) c.in_ok-found.ensures.ok c.in_err-refuse.ensures)))
