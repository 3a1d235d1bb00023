use Rattle.std.proofs.Common.{◌≡◌, ◌+◌, ◌≤◌, ◌++◌, [], ◌∷◌, false, length, vec_len, ap, refl, sym, subst, ◌∙◌, append_assoc, append-nil, arith}
use Rattle.std.proofs.lemmas.List.{nil_from_length}
use Rattle.std.specs.Prelude.{vec_capacity}
use Rattle.std.specs.Vec.Iter.{into_iter_items}
use Rattle.definitions.specs.Documents.{bytes_of, canonicals, documents_with_all}
use Rattle.definitions.specs.Lists.{has_repeat}
use Rattle.definitions.specs.Values.{same_text}
use Rattle.stored_documents.specs.SharedStored.{stored_documents}
use Rattle.stored_documents.proofs.PutTogether.{ascend_now, fits_below, none_placed, one_more, replaced_within}
use Rattle.stored_documents.proofs.together.place_all.Goals as goal

pub loop-document-init : goal.loop-document-init
loop-document-init c =
    let gives = c.into_iter-document-iterator.ensures.into_iter_gives in
    record {
      all = refl;
      left = gives.1 ∙ c.args.documents.ok.0 ∙ sym (ap length gives.0);
      so_far = none_placed (stored_documents c.args.stored.now.items);
      room = subst (λ ss. vec_len c.args.stored.now + length ss ≤ vec_capacity c.args.stored.now) (sym gives.0) c.requires.room;
    }

pub place_in_room-replaced-requires : goal.place_in_room-replaced-requires
place_in_room-replaced-requires c =
    let l = c.loop-document in
    let step = c.in-Some.ensures.steps.0 in
    record {
      ascend = ascend_now l.yielded (stored_documents c.args.stored.now.items) (stored_documents l.stored.items) l.replaced l.invariant.so_far c.requires.ascend;
      room =
          let short = ap length step in
          let within = l.invariant.room in
          omega arith;
    }

pub overflow_add-replaced : goal.overflow_add-replaced
overflow_add-replaced c =
    let l = c.loop-document in
    let before = stored_documents c.args.stored.now.items in
    let after = stored_documents c.place_in_room-replaced.new.stored.items in
    let rest = into_iter_items c.next.new.self in
    let step = c.in-Some.ensures.steps.0 in
    let all : c.args.documents.items ≡ (l.yielded ++ c.in-Some.document ∷ []) ++ rest =
    sym c.into_iter-document-iterator.ensures.into_iter_gives.0 ∙ sym (append_assoc l.yielded (c.in-Some.document ∷ []) rest ∙ rw (← step) l.invariant.all) in
    let now = one_more l.yielded c.in-Some.document before (stored_documents l.stored.items) after l.replaced c.place_in_room-replaced.result c.requires.ascend l.invariant.so_far
    c.place_in_room-replaced.ensures.placed c.place_in_room-replaced.ensures.bytes in
    fits_below (l.replaced + c.place_in_room-replaced.result) (bytes_of before)
    (replaced_within (l.yielded ++ c.in-Some.document ∷ []) rest before after (l.replaced + c.place_in_room-replaced.result) c.requires.ascend
    (subst (λ ss. has_repeat same_text (canonicals (stored_documents ss)) ≡ false) all c.requires.once) now)
    c.requires.fits

pub loop-document-preserved : goal.loop-document-preserved
loop-document-preserved c =
    let l = c.loop-document in
    let step = c.in-Some.ensures.steps.0 in
    record {
      all = append_assoc l.yielded (c.in-Some.document ∷ []) _ ∙ rw (← step) l.invariant.all;
      left =
          let was = l.invariant.left in
          let gone = c.in-Some.ensures.steps.1 in
          let short = ap length step in
          omega arith;
      so_far = one_more l.yielded c.in-Some.document (stored_documents c.args.stored.now.items) (stored_documents l.stored.items) (stored_documents c.place_in_room-replaced.new.stored.items)
          l.replaced c.place_in_room-replaced.result c.requires.ascend l.invariant.so_far c.place_in_room-replaced.ensures.placed c.place_in_room-replaced.ensures.bytes;
      room =
          let within = l.invariant.room in
          let short = ap length step in
          let longer = c.place_in_room-replaced.ensures.len in
          let wider = c.place_in_room-replaced.ensures.capacity in
          omega arith;
    }

pub returns : goal.returns
returns c =
    let l = c.loop-document in
    let before = stored_documents c.args.stored.now.items in
    let none : into_iter_items l.document-iterator ≡ [] = nil_from_length _ (sym l.invariant.left ∙ c.in-None.ensures.steps.0) in
    let all : l.yielded ≡ c.args.documents.items = sym (append-nil l.yielded) ∙ rw none at l.invariant.all ∙ c.into_iter-document-iterator.ensures.into_iter_gives.0 in
    record {
      placed = l.invariant.so_far.placed ∙ ap (λ ss. documents_with_all (stored_documents ss) before) all;
      bytes = l.invariant.so_far.bytes ∙ ap (λ ss. bytes_of before + bytes_of (stored_documents ss)) all;
      within = replaced_within l.yielded [] before (stored_documents l.stored.items) l.replaced c.requires.ascend
          (subst (λ ss. has_repeat same_text (canonicals (stored_documents ss)) ≡ false) (sym (append-nil l.yielded ∙ all)) c.requires.once) l.invariant.so_far;
    }
