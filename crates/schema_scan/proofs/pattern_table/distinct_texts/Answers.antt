use Rattle.std.proofs.Common.{◌≡◌, ◌++◌, [], ◌∷◌, Bor, BTreeSet, Vec, String, Global, get_or, true, map, length, string_bytes, sym, ap, ◌∙◌, arith}
use Rattle.std.proofs.lemmas.List.{length-append}
use Rattle.std.proofs.lemmas.Map.Text.{btree_set_updates_text}
use Rattle.std.specs.BTreeSet.{contains_text}
use Rattle.definitions.specs.Values.{Text}
use Rattle.schema_scan.specs.TextsAmong.{is_among}
use Rattle.schema_table.proofs.Lists.{map-push}
use Rattle.schema_scan.proofs.HeldPatterns.{same_kept, same_pushed, known_pushed}
use Rattle.schema_scan.proofs.pattern_table.distinct_texts.Goals as goal
use Rattle.schema_scan.proofs.pattern_table.distinct_texts.Goals.{then-not-contains+in_ok-from_str+in_ok-insert+in_ok-from_str-2+in_ok-push, else-not-contains}

abbrev Texts : Type 0
Texts = Vec (String Global) Global

pub loop-text-preserved : goal.loop-text-preserved
loop-text-preserved c =
    let rs = c.args.texts.now in
    let i = c.loop-text.text-index in
    let none : Bor Text = record { ref_ptr = (0, 0); now = [] } in
    let held = c.loop-text.invariant in
    let before = map string_bytes c.loop-text.distinct.items in
    elim c.if-not-contains.branch [
      | then-not-contains+in_ok-from_str+in_ok-insert+in_ok-from_str-2+in_ok-push w ↦
          let new = w.in_ok-from_str-2.field-0 in
          let key = string_bytes w.in_ok-from_str.field-0 in
          let grown : map string_bytes c.if-not-contains.distinct.items ≡ before ++ string_bytes new ∷ [] =
          ap (λ (v : Texts). map string_bytes v.items) w.distinct-is ∙ map-push string_bytes c.loop-text.distinct.items w.push.new.self.items new w.in_ok-push.ensures.items in
          record {
            known = λ q.
                ap (λ (s : BTreeSet (String Global)). contains_text s q) w.seen-is
                ∙ btree_set_updates_text key c.loop-text.seen w.insert.new.self true w.in_ok-insert.ensures.updates q
                ∙ known_pushed before (map string_bytes c.if-not-contains.distinct.items) key (string_bytes new) (contains_text c.loop-text.seen q) q grown
                (w.in_ok-from_str.ensures.ok ∙ sym w.in_ok-from_str-2.ensures.ok) (held.known q);
            same = same_pushed rs i none c.loop-text-test.true before held.same (map string_bytes c.if-not-contains.distinct.items) (string_bytes new) grown w.in_ok-from_str-2.ensures.ok;
            bound =
                let e = ap (λ (v : Texts). length v.items) w.distinct-is in
                let f = ap length w.in_ok-push.ensures.items in
                let g = length-append c.loop-text.distinct.items (new ∷ []) in
                let b = held.bound in
                omega (arith, e, f, g, b);
          }
      | else-not-contains w ↦ record {
        known = λ q.
            ap (λ (s : BTreeSet (String Global)). contains_text s q) w.seen-is ∙ held.known q
            ∙ ap (λ (v : Texts). is_among (map string_bytes v.items) q) (sym w.distinct-is);
        same = λ q.
            let text = (get_or rs i none).now in
            ap (λ (v : Texts). is_among (map string_bytes v.items) q) w.distinct-is
            ∙ same_kept rs i none c.loop-text-test.true before held.same (sym (held.known text) ∙ sym c.contains.ensures ∙ w.if-not-contains.false) q;
        bound =
            let e = ap (λ (v : Texts). length v.items) w.distinct-is in
            let b = held.bound in
            omega (arith, e, b);
      }
    ]
