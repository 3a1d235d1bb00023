use Rattle.std.proofs.Common.{ap, sym, subst, ◌∙◌, arith}
use Rattle.std.specs.Global.{Global}
use Rattle.std.specs.declared.rc.Rc.{Rc}
use Rattle.linker.specs.Positions.{StandsAt, IsGap}
use Rattle.linker.proofs.Positions.{absent_unfound}
use Rattle.stored_documents.specs.SharedStored.{stored_documents}
use Rattle.stored_documents.specs.StoredDocuments.{stored_view}
use Rattle.stored_documents.specs.declared.stored.Stored.{Stored}
use Rattle.stored_documents.proofs.PlacedThere.{left_out, none_left_out, map-remove}
use Rattle.stored_documents.proofs.StandingDocuments.{stored_as_long, stored_standing}
use Rattle.stored_documents.proofs.insertion.take_out.Goals as goal

pub remove-requires : goal.remove-requires
remove-requires c = omega (arith, c.in-Ok.ensures.found.inside, stored_as_long c.deref.result.now, c.deref.ensures.len)

pub returns-in-Ok-clause-others : goal.returns-in-Ok-clause-others
unfolding stored_documents
returns-in-Ok-clause-others c =
    let items = c.args.documents.now.items in
    let stands = subst (λ ss. StandsAt (stored_documents ss) c.args.uri.now c.in-Ok.at) c.deref.ensures.value c.in-Ok.ensures.found in
    ap stored_documents c.remove.ensures.items
    ∙ map-remove (λ (s : Rc Stored Global). stored_view s.value) items c.in-Ok.at
    ∙ left_out c.args.uri.now (stored_documents items) c.in-Ok.at c.requires stands

pub returns-in-Ok-clause-taken : goal.returns-in-Ok-clause-taken
returns-in-Ok-clause-taken c =
    let stands = subst (λ ss. StandsAt (stored_documents ss) c.args.uri.now c.in-Ok.at) c.deref.ensures.value c.in-Ok.ensures.found in
    sym (stored_standing c.args.documents.now.items c.args.uri.now c.in-Ok.at c.remove.result c.requires stands c.remove.ensures.value)

pub returns-in-Err-clause-others : goal.returns-in-Err-clause-others
returns-in-Err-clause-others c =
    let gap = subst (λ ss. IsGap (stored_documents ss) c.args.uri.now c.in-Err.field-0) c.deref.ensures.value c.in-Err.ensures.absent in
    sym (none_left_out c.args.uri.now (stored_documents c.args.documents.now.items) (λ d k. gap.absent d k))

pub returns-in-Err-clause-taken : goal.returns-in-Err-clause-taken
returns-in-Err-clause-taken c =
    let gap = subst (λ ss. IsGap (stored_documents ss) c.args.uri.now c.in-Err.field-0) c.deref.ensures.value c.in-Err.ensures.absent in
    sym (absent_unfound (stored_documents c.args.documents.now.items) c.args.uri.now c.in-Err.field-0 gap)
