use Rattle.std.proofs.Common.{refl, ◌≡◌, ◌-◌, ◌<◌, ◌∷◌, length, Some, None, sym, ap, ◌∙◌, subst, arith, rules}
use Rattle.json.specs.Token.{Token}
use Rattle.json.specs.Json.{parse_map, after_end_array, read_key, items, members}
use Rattle.json.specs.Json as grammar
use Rattle.json.specs.Reads.{token_of}
use Rattle.json.proofs.Grammar.{value_is, value-begin_array, value-begin_object, read_key-shorter}
use Rattle.serde_json.specs.Data as json
use Rattle.serde_json.specs.Read.{of_json, of_items, of_members, converted}
use Rattle.json_doc.proofs.Grammar.{converted-array, converted-object}
use Rattle.definitions.specs.Values.{null, boolean, integer, array, object}
use Rattle.definitions.specs.Texts.{value_of, elements_of, members_of}
use Rattle.definitions.specs.Values.{to_members}
use Rattle.json_doc.specs.Docs.{value, members_view}
use Rattle.json_doc.specs.Gathers.{gathered_view}
use Rattle.json_doc.specs.Members.{members_with}
use Rattle.json_doc.specs.Reads.{elements_at}
use Rattle.json_doc.specs.declared.doc.Doc.{Int, Bool, Null, the_lemmas}
use Rattle.json_doc.proofs.Views.{value-List, value-Dict}
use Rattle.lemmas.proofs.Members.{to_members-members_list}
use Rattle.json_doc.proofs.TokenReads.{converted-List, converted-Dict, element_read, elements_over, elements_before, elements_before-no_elements, one_more_element, none_before, AreRead, AreRead-put, member_put, members_read, number_at}
use Rattle.json_doc.proofs.reading.direct.+tokens.Goals as goal

pub doc_from-returns-in_ok-string-in-String-clause-ok : goal.doc_from-returns-in_ok-string-in-String-clause-ok
doc_from-returns-in_ok-string-in-String-clause-ok t c =
    let first : c.args.reader.now ≡ token_of c.in_ok-token.token ∷ c.next.new.self = grind arith in
    let is : c.args.reader.now ≡ Token.string c.in-String.text.now ∷ c.next.new.self = grind (arith, first) in
    ap (λ o. converted value_of (converted of_json o)) (ap (grammar.value c.args.depth) is ∙ value_is c.args.depth _)
    ∙ ap (λ v. Some (v, c.next.new.self)) (sym c.in_ok-string-in-String.ensures.ok)

pub doc_from-returns-in-Bool-clause-ok : goal.doc_from-returns-in-Bool-clause-ok
doc_from-returns-in-Bool-clause-ok t c =
    let first : c.args.reader.now ≡ token_of c.in_ok-token.token ∷ c.next.new.self = grind arith in
    let is : c.args.reader.now ≡ Token.boolean c.in-Bool.boolean ∷ c.next.new.self = grind (arith, first) in
    let seen : value (Bool c.in-Bool.boolean) ≡ boolean c.in-Bool.boolean = search (rules, the_lemmas) in
    ap (λ o. converted value_of (converted of_json o)) (ap (grammar.value c.args.depth) is ∙ value_is c.args.depth _)
    ∙ ap (λ v. Some (v, c.next.new.self)) (sym seen)

pub doc_from-returns-in-Null-clause-ok : goal.doc_from-returns-in-Null-clause-ok
doc_from-returns-in-Null-clause-ok t c =
    let first : c.args.reader.now ≡ token_of c.in_ok-token.token ∷ c.next.new.self = grind arith in
    let is : c.args.reader.now ≡ Token.null ∷ c.next.new.self = grind (arith, first) in
    let seen : value Null ≡ null = search (rules, the_lemmas) in
    ap (λ o. converted value_of (converted of_json o)) (ap (grammar.value c.args.depth) is ∙ value_is c.args.depth _)
    ∙ ap (λ v. Some (v, c.next.new.self)) (sym seen)

pub doc_from-returns-in-Some-clause-ok : goal.doc_from-returns-in-Some-clause-ok
doc_from-returns-in-Some-clause-ok t c =
    let first : c.args.reader.now ≡ token_of c.in_ok-token.token ∷ c.next.new.self = grind arith in
    let is : c.args.reader.now ≡ Token.number c.in-Number.text.now ∷ c.next.new.self = grind (arith, first) in
    let seen : value (Int c.in-Some.whole) ≡ integer c.in-Some.whole = search (rules, the_lemmas) in
    ap (λ o. converted value_of (converted of_json o)) (ap (grammar.value c.args.depth) is ∙ value_is c.args.depth _)
    ∙ number_at c.in-Number.text.now c.in-Some.whole c.next.new.self c.in-Some.ensures
    ∙ ap (λ v. Some (v, c.next.new.self)) (sym seen)

pub doc_from-returns-in_ok-list_from-in-BeginArray-clause-ok : goal.doc_from-returns-in_ok-list_from-in-BeginArray-clause-ok
doc_from-returns-in_ok-list_from-in-BeginArray-clause-ok t c =
    let first : c.args.reader.now ≡ token_of c.in_ok-token.token ∷ c.next.new.self = grind arith in
    let ts = c.next.new.self in
    let within = items (grammar.value (c.args.depth - 1)) (length ts) ts in
    let found = c.in_ok-list_from-in-BeginArray in
    ap (λ o. converted value_of (converted of_json o)) (ap (grammar.value c.args.depth) (first ∙ ap (λ k. token_of k ∷ ts) c.in-BeginArray.is) ∙ value-begin_array c.args.depth ts (omega arith))
    ∙ ap (converted value_of) (converted-array within) ∙ converted-List (converted of_items within)
    ∙ ap (parse_map array) found.ensures.ok ∙ ap (λ v. Some (v, c.list_from.new.reader)) (sym (value-List found.field-0))

pub doc_from-returns-in_ok-dict_from-in-BeginObject-clause-ok : goal.doc_from-returns-in_ok-dict_from-in-BeginObject-clause-ok
doc_from-returns-in_ok-dict_from-in-BeginObject-clause-ok t c =
    let first : c.args.reader.now ≡ token_of c.in_ok-token.token ∷ c.next.new.self = grind arith in
    let ts = c.next.new.self in
    let within = members (grammar.value (c.args.depth - 1)) (length ts) ts in
    let found = c.in_ok-dict_from-in-BeginObject in
    ap (λ o. converted value_of (converted of_json o)) (ap (grammar.value c.args.depth) (first ∙ ap (λ k. token_of k ∷ ts) c.in-BeginObject.is) ∙ value-begin_object c.args.depth ts (omega arith))
    ∙ ap (converted value_of) (converted-object within) ∙ converted-Dict (converted (λ ms. of_members ms json.no_members) within)
    ∙ ap (parse_map object) found.ensures.ok ∙ ap (λ v. Some (v, c.dict_from.new.reader)) (sym (value-Dict found.field-0))

pub list_from-items-init : goal.list_from-items-init
list_from-items-init t c =
    let all = elements_at c.args.depth c.args.reader.now in
    (length c.args.reader.now, omega arith, none_before all ∙ ap (λ ds. parse_map (elements_before ds) all) (sym c.new-items.ensures.items), omega arith)

pub list_from-items-preserved : goal.list_from-items-preserved
list_from-items-preserved t c =
    let p = grammar.value c.args.depth in
    let l = c.items in
    let n = l.invariant.0 in
    let going : (after_end_array l.reader ≡ None) × (c.take_end_array.new.self ≡ l.reader) = grind arith in
    let done = c.in_ok-item.ensures in
    let d = c.in_ok-item.item in
    let r = c.doc_from.new.reader in
    let less : length r < length l.reader = rw (← going.1) done.shorter in
    let turn = element_read p n l.reader r (value d) (omega (arith, l.invariant.1)) going.0 (rw (← going.1) done.ok) in (
      n - 1,
      omega (arith, l.invariant.1),
      l.invariant.2 ∙ ap (parse_map (elements_before l.items.items)) turn ∙ one_more_element l.items.items d _
          ∙ ap (λ ds. parse_map (elements_before ds) (converted elements_of (converted of_items (items p (n - 1) r)))) (sym c.in_ok-push.ensures.items),
      omega (arith, l.invariant.3),
    )

pub list_from-returns-clause-ok : goal.list_from-returns-clause-ok
list_from-returns-clause-ok t c =
    let p = grammar.value c.args.depth in
    let l = c.items in
    let n = l.invariant.0 in
    let r = c.take_end_array.new.self in
    l.invariant.2 ∙ ap (parse_map (elements_before l.items.items)) (elements_over p n l.reader r l.invariant.1 (grind arith)) ∙ ap (λ es. Some (es, r)) (elements_before-no_elements l.items.items)

pub dict_from-members-init : goal.dict_from-members-init
dict_from-members-init t c =
    let all = members (grammar.value c.args.depth) (length c.args.reader.now) c.args.reader.now in
    (length c.args.reader.now, json.no_members, omega arith, refl, subst (AreRead json.no_members) (sym c.new-gathered.ensures) tt, omega arith)

pub dict_from-members-preserved : goal.dict_from-members-preserved
dict_from-members-preserved t c =
    let p = grammar.value c.args.depth in
    let l = c.members in
    let n = l.invariant.0 in
    let old = l.invariant.1 in
    let k = c.in-Some.name.now in
    let s = c.next_key.new.self in
    let named : read_key l.reader ≡ Some (Some k, s) = grind arith in
    let done = c.in_ok-member.ensures in
    let v = value c.in_ok-member.member in
    let r = c.doc_from.new.reader in
    let less = read_key-shorter l.reader (Some k) s named in
    let lesser = done.shorter in
    let turn = member_put p old n k l.reader s r v (omega (arith, l.invariant.2)) named done.ok in
    let inserted : gathered_view c.insert.new.self ≡ members_with k v (gathered_view l.gathered) = c.in_ok-insert.ensures ∙ ap (members_with k v) c.in_ok-make_room.ensures in (
      n - 1,
      json.put k turn.0 old,
      omega (arith, l.invariant.2),
      l.invariant.3 ∙ turn.2,
      subst (AreRead (json.put k turn.0 old)) (sym inserted) (AreRead-put k turn.0 v old (gathered_view l.gathered) l.invariant.4 turn.1),
      omega (arith, l.invariant.5),
    )

pub dict_from-returns-clause-ok : goal.dict_from-returns-clause-ok
dict_from-returns-clause-ok t c =
    let p = grammar.value c.args.depth in
    let l = c.members in
    let n = l.invariant.0 in
    let r = c.next_key.new.self in
    ap (converted members_of) l.invariant.3 ∙ members_read p l.invariant.1 n l.reader r (gathered_view l.gathered) l.invariant.2 (grind arith) l.invariant.4
    ∙ ap (λ ms. Some (ms, r)) (ap to_members (sym c.in_ok-into_members.ensures) ∙ to_members-members_list (members_view c.in_ok-into_members.field-0))
