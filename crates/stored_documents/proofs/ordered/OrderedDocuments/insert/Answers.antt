use Rattle.std.proofs.Common.{length, option_map, ap, sym, subst, ◌∙◌}
use Rattle.definitions.specs.Documents.{bytes_of, documents_with}
use Rattle.definitions.specs.Keeping.{AreKept}
use Rattle.definitions.specs.Patterns.{regular_search}
use Rattle.definitions.specs.Texts.{text}
use Rattle.lemmas.proofs.Results.{on_err}
use Rattle.stored_documents.specs.OrderedDocuments.{ordered_documents}
use Rattle.stored_documents.specs.SharedStored.{stored_documents}
use Rattle.stored_documents.specs.StoredDocuments.{stored_view}
use Rattle.stored_documents.specs.KeptDocuments.{kept_stored}
use Rattle.stored_documents.proofs.KeptStored.{kept_with}
use Rattle.stored_documents.proofs.MeasuredDocuments.{fits_as, sum_instead, sum_more}
use Rattle.stored_documents.proofs.ordered.OrderedDocuments.insert.Goals as goal

pub returns-in_err-replaced-clause-kept : goal.returns-in_err-replaced-clause-kept
unfolding ordered_documents
returns-in_err-replaced-clause-kept c = on_err c.from_residual.result c.in_err-replaced.ensures.kept

pub overflow_sub-self : goal.overflow_sub-self
overflow_sub-self c =
    let ds = stored_documents c.args.self.now.stored.items in
    (sum_instead (stored_view c.args.document.value) (stored_view c.in-Some.replaced.value) ds c.length.result c.length-length.result c.args.self.now.bytes c.args.self.now.ascend
    (sym c.in_ok-replaced.ensures.replaced ∙ ap (option_map (λ s. stored_view s.value)) c.in-Some.is)
    (c.length.ensures ∙ ap (λ s. length (text (stored_view s).value)) c.deref-in-Some.ensures)
    (c.length-length.ensures ∙ ap (λ s. length (text (stored_view s).value)) c.deref.ensures) c.args.self.now.measured).0

pub overflow_add-self : goal.overflow_add-self
unfolding ordered_documents
overflow_add-self c =
    let ds = stored_documents c.args.self.now.stored.items in
    let sum = sum_instead (stored_view c.args.document.value) (stored_view c.in-Some.replaced.value) ds c.length.result c.length-length.result c.args.self.now.bytes c.args.self.now.ascend
    (sym c.in_ok-replaced.ensures.replaced ∙ ap (option_map (λ s. stored_view s.value)) c.in-Some.is)
    (c.length.ensures ∙ ap (λ s. length (text (stored_view s).value)) c.deref-in-Some.ensures)
    (c.length-length.ensures ∙ ap (λ s. length (text (stored_view s).value)) c.deref.ensures) c.args.self.now.measured in
    fits_as _ (bytes_of (documents_with (stored_view c.args.document.value) ds)) sum.1 c.requires.fits

pub invariant_of-self-in-Some : goal.invariant_of-self-in-Some
unfolding ordered_documents
invariant_of-self-in-Some c =
    let ds = stored_documents c.args.self.now.stored.items in
    let sum = sum_instead (stored_view c.args.document.value) (stored_view c.in-Some.replaced.value) ds c.length.result c.length-length.result c.args.self.now.bytes c.args.self.now.ascend
    (sym c.in_ok-replaced.ensures.replaced ∙ ap (option_map (λ s. stored_view s.value)) c.in-Some.is)
    (c.length.ensures ∙ ap (λ s. length (text (stored_view s).value)) c.deref-in-Some.ensures)
    (c.length-length.ensures ∙ ap (λ s. length (text (stored_view s).value)) c.deref.ensures) c.args.self.now.measured in
    let after = subst (AreKept regular_search) (sym c.in_ok-replaced.ensures.placed)
    (kept_with ds c.args.document.value (kept_stored c.args.self.now.stored.items c.args.self.now.ascend c.args.self.now.distinct) c.requires.free) in
    record { ascend = after.ordered; distinct = after.distinct; measured = sum.1 ∙ ap bytes_of (sym c.in_ok-replaced.ensures.placed) }

pub overflow_add-self-in-None : goal.overflow_add-self-in-None
unfolding ordered_documents
overflow_add-self-in-None c =
    let ds = stored_documents c.args.self.now.stored.items in
    let sum = sum_more (stored_view c.args.document.value) ds c.length-length.result c.args.self.now.bytes c.args.self.now.ascend
    (sym c.in_ok-replaced.ensures.replaced ∙ ap (option_map (λ s. stored_view s.value)) c.in-None.is)
    (c.length-length.ensures ∙ ap (λ s. length (text (stored_view s).value)) c.deref.ensures) c.args.self.now.measured in
    fits_as _ (bytes_of (documents_with (stored_view c.args.document.value) ds)) sum c.requires.fits

pub invariant_of-self-in-None : goal.invariant_of-self-in-None
unfolding ordered_documents
invariant_of-self-in-None c =
    let ds = stored_documents c.args.self.now.stored.items in
    let sum = sum_more (stored_view c.args.document.value) ds c.length-length.result c.args.self.now.bytes c.args.self.now.ascend
    (sym c.in_ok-replaced.ensures.replaced ∙ ap (option_map (λ s. stored_view s.value)) c.in-None.is)
    (c.length-length.ensures ∙ ap (λ s. length (text (stored_view s).value)) c.deref.ensures) c.args.self.now.measured in
    let after = subst (AreKept regular_search) (sym c.in_ok-replaced.ensures.placed)
    (kept_with ds c.args.document.value (kept_stored c.args.self.now.stored.items c.args.self.now.ascend c.args.self.now.distinct) c.requires.free) in
    record { ascend = after.ordered; distinct = after.distinct; measured = sum ∙ ap bytes_of (sym c.in_ok-replaced.ensures.placed) }

pub returns-in-Some-clause-placed : goal.returns-in-Some-clause-placed
unfolding ordered_documents
returns-in-Some-clause-placed c = c.in_ok-replaced.ensures.placed

pub returns-in-Some-clause-replaced : goal.returns-in-Some-clause-replaced
unfolding ordered_documents
returns-in-Some-clause-replaced c = sym (ap (option_map (λ s. stored_view s.value)) c.in-Some.is) ∙ c.in_ok-replaced.ensures.replaced

pub returns-in-None-clause-placed : goal.returns-in-None-clause-placed
unfolding ordered_documents
returns-in-None-clause-placed c = c.in_ok-replaced.ensures.placed

pub returns-in-None-clause-replaced : goal.returns-in-None-clause-replaced
unfolding ordered_documents
returns-in-None-clause-replaced c = sym (ap (option_map (λ s. stored_view s.value)) c.in-None.is) ∙ c.in_ok-replaced.ensures.replaced
