use Rattle.std.proofs.Common.{length, ap, sym, subst, ◌∙◌}
use Rattle.definitions.specs.Documents.{bytes_of, others_of}
use Rattle.definitions.specs.Keeping.{AreKept}
use Rattle.definitions.specs.Patterns.{regular_search}
use Rattle.definitions.specs.Texts.{text}
use Rattle.stored_documents.specs.OrderedDocuments.{ordered_documents}
use Rattle.stored_documents.specs.SharedStored.{stored_documents}
use Rattle.stored_documents.specs.StoredDocuments.{stored_view}
use Rattle.stored_documents.specs.KeptDocuments.{kept_stored}
use Rattle.stored_documents.proofs.KeptStored.{kept_without}
use Rattle.stored_documents.proofs.MeasuredDocuments.{bytes_left, bytes_without, is_left, is_within}
use Rattle.stored_documents.proofs.ordered.OrderedDocuments.remove.Goals as goal

pub overflow_sub-self : goal.overflow_sub-self
overflow_sub-self c =
    let ds = stored_documents c.args.self.now.stored.items in
    let old = stored_view c.in-Some.removed.value in
    is_within (bytes_of (others_of c.args.canonical.now ds)) (length (text old.value)) (bytes_of ds) c.length.result c.args.self.now.bytes
    (bytes_without c.args.canonical.now old ds c.args.self.now.ascend (sym c.in-Some.ensures.taken))
    (c.length.ensures ∙ ap (λ s. length (text (stored_view s).value)) c.deref.ensures) c.args.self.now.measured

pub invariant_of-self : goal.invariant_of-self
invariant_of-self c =
    let ds = stored_documents c.args.self.now.stored.items in
    let old = stored_view c.in-Some.removed.value in
    let after = subst (AreKept regular_search) (sym c.take_out.ensures.others)
    (kept_without c.args.canonical.now ds (kept_stored c.args.self.now.stored.items c.args.self.now.ascend c.args.self.now.distinct)) in
    record {
      ascend = after.ordered;
      distinct = after.distinct;
      measured = is_left (bytes_of (others_of c.args.canonical.now ds)) (length (text old.value)) (bytes_of ds) c.length.result c.args.self.now.bytes
          (bytes_without c.args.canonical.now old ds c.args.self.now.ascend (sym c.in-Some.ensures.taken))
          (c.length.ensures ∙ ap (λ s. length (text (stored_view s).value)) c.deref.ensures) c.args.self.now.measured
          ∙ ap bytes_of (sym c.take_out.ensures.others);
    }

pub invariant_of-self-in-None : goal.invariant_of-self-in-None
invariant_of-self-in-None c =
    let ds = stored_documents c.args.self.now.stored.items in
    let after = subst (AreKept regular_search) (sym c.take_out.ensures.others)
    (kept_without c.args.canonical.now ds (kept_stored c.args.self.now.stored.items c.args.self.now.ascend c.args.self.now.distinct)) in
    record {
      ascend = after.ordered;
      distinct = after.distinct;
      measured = c.args.self.now.measured ∙ sym (bytes_left c.args.canonical.now ds c.args.self.now.ascend (sym c.in-None.ensures.taken)) ∙ ap bytes_of (sym c.take_out.ensures.others);
    }

pub returns-in-Some-clause-others : goal.returns-in-Some-clause-others
unfolding ordered_documents
returns-in-Some-clause-others c = c.take_out.ensures.others

pub returns-in-Some-clause-removed : goal.returns-in-Some-clause-removed
unfolding ordered_documents
returns-in-Some-clause-removed c = c.in-Some.ensures.taken

pub returns-in-None-clause-others : goal.returns-in-None-clause-others
unfolding ordered_documents
returns-in-None-clause-others c = c.take_out.ensures.others

pub returns-in-None-clause-removed : goal.returns-in-None-clause-removed
unfolding ordered_documents
returns-in-None-clause-removed c = c.in-None.ensures.taken
