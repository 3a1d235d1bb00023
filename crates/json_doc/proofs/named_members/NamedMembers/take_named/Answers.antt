use Rattle.std.proofs.Common.{◌≡◌, List, [], ◌∷◌, map, length, Option, Some, None, Bor, Iter, Less, nat_cmp, arith, sym, ap, subst, ◌∙◌}
use Rattle.std.specs.Cmp.Lexicographic.{slice_cmp}
use Rattle.std.specs.List.{slice_get}
use Rattle.std.specs.Slice.Iter.{iter_rest, iter_steps}
use Rattle.definitions.specs.Values.{Text}
use Rattle.json_doc.specs.Members.{AreAbove, HasNamesInOrder, member_value, members_left}
use Rattle.json_doc.specs.NamedMembers.{name_text, named_left}
use Rattle.json_doc.specs.SmallTexts.{text_view}
use Rattle.json_doc.proofs.NamesInOrder.{AreLeft, all_above, left_after, taken, none_taken, turned}
use Rattle.json_doc.proofs.Views.{Entry}
use Rattle.json_doc.proofs.named_members.NamedMembers.take_named.Goals as goal
use Rattle.json_doc.proofs.named_members.NamedMembers.take_named.Goals.{In-Some}

not_empty : (e : Entry) (es : List Entry) → Some e ≡ slice_get es 0 → length es ≡ 0 → ⊥
not_empty e [] is none = cc
not_empty e (f ∷ fs) is none = omega arith

-- an iterator gives the first of what it has left
first_given : (e : Entry) (before after : Iter Entry) (given : Option (Bor Entry)) → Some e ≡ slice_get (iter_rest before) 0 → iter_steps before given after
    → iter_rest before ≡ e ∷ iter_rest after
first_given e before after None is steps = absurd (not_empty e (iter_rest before) is steps.0)
first_given e before after (Some x) is steps = steps ∙ ap (λ y. y ∷ iter_rest after) (cc (is, ap (λ es. slice_get es 0) steps))

-- entries in order are all above the name where the first is
are_above : (name : Text) (e : Entry) (es : List Entry) → Some e ≡ slice_get es 0 → slice_cmp nat_cmp name (text_view e.0) ≡ Less → HasNamesInOrder (map member_value es)
    → AreAbove name (map member_value es)
are_above name e [] is less ordered = tt
are_above name e (f ∷ fs) is less ordered =
    let same : e ≡ f = cc in
    all_above name (member_value f) (map member_value fs) (subst (λ d. slice_cmp nat_cmp name (text_view d.0) ≡ Less) same less) ordered

none_above : (name : Text) (es : List Entry) → None ≡ slice_get es 0 → AreAbove name (map member_value es)
none_above name [] is = tt
none_above name (e ∷ es) is = absurd (cc)

first_left : (c : In-Some) → Some c.in-Some.field-0.now ≡ slice_get (iter_rest c.names.self.members.entries) 0
first_left c = c.in-Some.ensures.value ∙ ap (λ es. slice_get es 0) c.as_slice.ensures.value

pub names-preserved : goal.names-preserved
unfolding members_left
names-preserved c = λ h.
    let name = name_text c.args.name in
    let before = named_left c.args.self.now in
    let e = c.in-Some.field-0.now in
    let given = first_given e c.names.self.members.entries c.next.new.self c.next.result (first_left (goal.at.names-preserved c).In-Some) c.next.ensures.steps in
    left_after name before (member_value e) (map member_value (iter_rest c.next.new.self)) (sym c.compare.ensures ∙ c.in-Less.is)
    (subst (λ es. AreLeft name before (map member_value es)) given (c.names.invariant h))

pub returns-in-Some-next : goal.returns-in-Some-next
unfolding members_left
returns-in-Some-next c = λ h.
    let name = name_text c.args.name in
    let before = named_left c.args.self.now in
    let e = c.in-Some-next.field-0.now in
    let same : e ≡ c.in-Some.field-0.now = cc (first_left (goal.at.returns-in-Some-next c).In-Some, ap (λ es. slice_get es 0) c.in-Some-next.ensures.steps) in
    taken name before (member_value e) (map member_value (iter_rest c.next-in-Equal.new.self))
    (ap (λ d. slice_cmp nat_cmp (text_view d.0) name) same ∙ sym c.compare.ensures ∙ c.in-Equal.is)
    (subst (λ es. AreLeft name before (map member_value es)) c.in-Some-next.ensures.steps (c.names.invariant h))

pub returns-in-Greater : goal.returns-in-Greater
unfolding members_left
returns-in-Greater c = λ h.
    let name = name_text c.args.name in
    let e = c.in-Some.field-0.now in
    let es = iter_rest c.names.self.members.entries in
    let left = c.names.invariant h in
    none_taken name (named_left c.args.self.now) (map member_value es)
    (are_above name e es (first_left (goal.at.returns-in-Greater c).In-Some) (turned (text_view e.0) name (sym c.compare.ensures ∙ c.in-Greater.is)) left.ordered) left

pub returns : goal.returns
unfolding members_left
returns c = λ h.
    let es = iter_rest c.names.self.members.entries in
    none_taken (name_text c.args.name) (named_left c.args.self.now) (map member_value es)
    (none_above (name_text c.args.name) es (c.in_default.ensures.value ∙ ap (λ es. slice_get es 0) c.as_slice.ensures.value)) (c.names.invariant h)
