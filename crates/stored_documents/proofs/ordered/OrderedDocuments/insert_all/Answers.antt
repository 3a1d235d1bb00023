use Rattle.std.proofs.Common.{◌^◌, ◌<◌, ◌≤◌, ap, sym, subst, ◌∙◌, arith}
use Rattle.definitions.specs.Documents.{bytes_of, documents_with_all}
use Rattle.definitions.specs.Keeping.{AreKept}
use Rattle.definitions.specs.Patterns.{regular_search}
use Rattle.definition_laws.proofs.AcceptedBatches.{unrepeated}
use Rattle.lemmas.proofs.Results.{on_err}
use Rattle.stored_documents.specs.OrderedDocuments.{ordered_documents}
use Rattle.stored_documents.specs.KeptDocuments.{kept_stored}
use Rattle.stored_documents.specs.SharedStored.{stored_documents}
use Rattle.stored_documents.proofs.MeasuredDocuments.{fits_as}
use Rattle.stored_documents.proofs.PutTogether.{below_fits, kept_with_all, own_bytes, sum_together}
use Rattle.stored_documents.proofs.ordered.OrderedDocuments.insert_all.Goals as goal

pub returns-in_err-reserve-clause-kept : goal.returns-in_err-reserve-clause-kept
unfolding ordered_documents
returns-in_err-reserve-clause-kept c = on_err c.from_residual.result (ap stored_documents c.reserve.ensures.items)

pub total_length-added-requires : goal.total_length-added-requires
unfolding ordered_documents
total_length-added-requires c =
    let ds = stored_documents c.args.self.now.stored.items in
    let es = stored_documents c.args.documents.items in
    below_fits (bytes_of (stored_documents c.deref.result.now)) (bytes_of es) (bytes_of (documents_with_all es ds)) (ap (λ ss. bytes_of (stored_documents ss)) c.deref.ensures.value)
    (own_bytes es ds c.args.self.now.ascend c.requires.once) c.requires.fits

pub place_all-replaced-requires-clause-fits : goal.place_all-replaced-requires-clause-fits
place_all-replaced-requires-clause-fits c =
    let ds = stored_documents c.args.self.now.stored.items in
    let small : c.args.self.now.bytes < 2 ^ 64 = omega arith in
    let same : c.args.self.now.bytes ≤ c.args.self.now.bytes = omega arith in
    below_fits (bytes_of (stored_documents c.reserve.new.self.items)) c.args.self.now.bytes c.args.self.now.bytes
    (ap (λ ss. bytes_of (stored_documents ss)) c.reserve.ensures.items ∙ sym c.args.self.now.measured) same small

pub place_all-replaced-requires-clause-once : goal.place_all-replaced-requires-clause-once
place_all-replaced-requires-clause-once c = unrepeated (stored_documents c.args.documents.items) c.requires.once

pub overflow_add-self : goal.overflow_add-self
unfolding ordered_documents
overflow_add-self c =
    let ds = stored_documents c.args.self.now.stored.items in
    let es = stored_documents c.args.documents.items in
    let sum = sum_together es ds (stored_documents c.reserve.new.self.items) (stored_documents c.place_all-replaced.new.stored.items) c.args.self.now.bytes
    c.place_all-replaced.result c.total_length-added.result (ap stored_documents c.reserve.ensures.items) c.args.self.now.measured c.place_all-replaced.ensures.placed
    c.place_all-replaced.ensures.bytes c.place_all-replaced.ensures.within (c.total_length-added.ensures ∙ ap (λ ss. bytes_of (stored_documents ss)) c.deref.ensures.value) in
    fits_as _ (bytes_of (documents_with_all es ds)) sum c.requires.fits

pub invariant_of-self-2 : goal.invariant_of-self-2
unfolding ordered_documents
invariant_of-self-2 c =
    let ds = stored_documents c.args.self.now.stored.items in
    let es = stored_documents c.args.documents.items in
    let sum = sum_together es ds (stored_documents c.reserve.new.self.items) (stored_documents c.place_all-replaced.new.stored.items) c.args.self.now.bytes
    c.place_all-replaced.result c.total_length-added.result (ap stored_documents c.reserve.ensures.items) c.args.self.now.measured c.place_all-replaced.ensures.placed
    c.place_all-replaced.ensures.bytes c.place_all-replaced.ensures.within (c.total_length-added.ensures ∙ ap (λ ss. bytes_of (stored_documents ss)) c.deref.ensures.value) in
    let put = c.place_all-replaced.ensures.placed ∙ ap (λ ss. documents_with_all es (stored_documents ss)) c.reserve.ensures.items in
    let after = subst (AreKept regular_search) (sym put)
    (kept_with_all c.args.documents.items ds (kept_stored c.args.self.now.stored.items c.args.self.now.ascend c.args.self.now.distinct) c.requires.once c.requires.free) in
    record { ascend = after.ordered; distinct = after.distinct; measured = sum ∙ ap bytes_of (sym put) }

pub returns-clause-placed : goal.returns-clause-placed
unfolding ordered_documents
returns-clause-placed c = c.place_all-replaced.ensures.placed ∙ ap (λ ss. documents_with_all (stored_documents c.args.documents.items) (stored_documents ss)) c.reserve.ensures.items
