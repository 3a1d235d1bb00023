use Rattle.std.proofs.Common.{◌≡◌, [], ◌∷◌, ◌++◌, length, Some, refl, sym, ap, ◌∙◌, subst, append_assoc, append-nil, arith, string_bytes}
use Rattle.std.proofs.lemmas.Result.{err_from_is_err_and}
use Rattle.std.proofs.lemmas.List.{nil_from_length}
use Rattle.std.specs.List.Sorted.{IsStrictlySortedBy}
use Rattle.std.specs.Map.{keys_of}
use Rattle.std.specs.String.{string_cmp}
use Rattle.std.specs.Vec.Iter.{into_iter_items}
use Rattle.lemmas.proofs.Members.{to_members-members_list}
use Rattle.json_doc.specs.Docs.{value, members_view, members_value}
use Rattle.json_doc.specs.Members.{members_with}
use Rattle.json_doc.proofs.Converted.{Entry, AreItems-snoc, AreItems-whole, AreItems-none, AreMembers, AreMembers-snoc, AreMembers-whole, AreMembers-none, next_is_last}
use Rattle.json_doc.proofs.reading.+read.Goals as goal

pub docs_of-returns-in_err-doc_of-clause-err : goal.docs_of-returns-in_err-doc_of-clause-err
docs_of-returns-in_err-doc_of-clause-err t c =
    let p = err_from_is_err_and c.from_residual-in_err-doc_of.result c.from_residual-in_err-doc_of.ensures.1 in
    let l = c.loop-item in
    let all : c.args.items.items ≡ l.yielded ++ c.in-Some.item ∷ into_iter_items c.next.new.self =
    sym c.into_iter-item-iterator.ensures.into_iter_gives.0 ∙ sym l.invariant.all ∙ ap (λ vs. l.yielded ++ vs) c.in-Some.ensures.steps.0 in
    rw (p.1, p.2) (λ other. let f = c.in_err-doc_of.ensures.err other in (f.0, rw all (AreItems-none l.yielded l.docs.items c.in-Some.item _ l.invariant.read f.1)))

pub docs_of-loop-item-preserved : goal.docs_of-loop-item-preserved
docs_of-loop-item-preserved t c =
    let l = c.loop-item in
    let step = c.in-Some.ensures.steps.0 in
    record {
      all = append_assoc l.yielded (c.in-Some.item ∷ []) _ ∙ rw (← step) l.invariant.all;
      read = rw c.in_ok-push.ensures.items (AreItems-snoc l.yielded l.docs.items c.in-Some.item c.in_ok-doc_of.field-0 l.invariant.read c.in_ok-doc_of.ensures.ok);
      left =
          let was = l.invariant.left in
          let gone = c.in-Some.ensures.steps.1 in
          let short = ap length step in
          omega arith;
    }

pub docs_of-returns-clause-ok : goal.docs_of-returns-clause-ok
docs_of-returns-clause-ok t c =
    let l = c.loop-item in
    let none : into_iter_items l.item-iterator ≡ [] = nil_from_length _ (sym l.invariant.left ∙ c.in-None.ensures.steps.0) in
    let all : l.yielded ≡ c.args.items.items = sym (append-nil l.yielded) ∙ rw none at l.invariant.all ∙ c.into_iter-item-iterator.ensures.into_iter_gives.0 in
    rw (← all) (AreItems-whole l.yielded l.docs.items l.invariant.read)

pub dict_of-returns-in_err-doc_of-clause-err : goal.dict_of-returns-in_err-doc_of-clause-err
dict_of-returns-in_err-doc_of-clause-err t c =
    let p = err_from_is_err_and c.from_residual.result c.from_residual.ensures.1 in
    let l = c.loop-name in
    let e : Entry = (c.in-Some.name, c.in-Some.member) in
    let all : c.args.members.entries ≡ l.yielded ++ e ∷ c.next.new.self =
    sym c.into_iter-name-iterator.ensures.into_iter_gives.0 ∙ sym l.invariant.all ∙ ap (λ es. l.yielded ++ es) c.in-Some.ensures.steps in
    rw (p.1, p.2) (λ other. let f = c.in_err-doc_of.ensures.err other in (f.0, rw all (AreMembers-none l.yielded _ e _ l.invariant.read f.1)))

pub dict_of-returns-in_err-insert-clause-err : goal.dict_of-returns-in_err-insert-clause-err
dict_of-returns-in_err-insert-clause-err t c =
    let p = err_from_is_err_and c.from_residual-in_err-insert.result c.from_residual-in_err-insert.ensures.1 in
    rw (p.1, p.2) (λ other. absurd (other refl))

pub dict_of-loop-name-preserved : goal.dict_of-loop-name-preserved
dict_of-loop-name-preserved t c =
    let l = c.loop-name in
    let e : Entry = (c.in-Some.name, c.in-Some.member) in
    let left = c.next.new.self in
    let v = value c.in_ok-doc_of.field-0 in
    let gives = c.into_iter-name-iterator.ensures.into_iter_gives in
    let all : c.args.members.entries ≡ l.yielded ++ e ∷ left = sym gives.0 ∙ sym l.invariant.all ∙ ap (λ es. l.yielded ++ es) c.in-Some.ensures.steps in
    let sorted : IsStrictlySortedBy string_cmp (keys_of (l.yielded ++ e ∷ left)) = subst (λ es. IsStrictlySortedBy string_cmp (keys_of es)) all gives.5 in
    record {
      all = append_assoc l.yielded (e ∷ []) left ∙ sym (ap (λ es. l.yielded ++ es) c.in-Some.ensures.steps) ∙ l.invariant.all;
      read =
          let put : members_value c.insert.new.self ≡ members_value l.dict ++ (string_bytes e.0, v) ∷ [] = c.in_ok-insert.ensures.ok ∙ ap (λ name. members_with name v (members_value l.dict)) c.as_str.ensures.value ∙ next_is_last l.yielded e left (members_value l.dict) v sorted l.invariant.read in
          subst (AreMembers (l.yielded ++ e ∷ [])) (sym put) (AreMembers-snoc l.yielded (members_value l.dict) e v l.invariant.read c.in_ok-doc_of.ensures.ok);
    }

pub dict_of-returns-clause-ok : goal.dict_of-returns-clause-ok
dict_of-returns-clause-ok t c =
    let l = c.loop-name in
    let none : l.name-iterator ≡ [] = c.in-None.ensures.steps.0 in
    let all : l.yielded ≡ c.args.members.entries = sym (append-nil l.yielded) ∙ rw none at l.invariant.all ∙ c.into_iter-name-iterator.ensures.into_iter_gives.0 in
    rw (← all) (AreMembers-whole l.yielded (members_value l.dict) l.invariant.read) ∙ ap Some (to_members-members_list (members_view l.dict))
