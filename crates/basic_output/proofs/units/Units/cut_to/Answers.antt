use Rattle.std.proofs.Common.{◌≡◌, ◌<◌, ◌++◌, ℕ, List, true, false, drop, length, map, nat_le, slice_index_or, take, [], subst, sym, ap, ap₂, ◌∙◌}
use Rattle.std.proofs.lemmas.List.{length-map, map-append, take-append-drop, take-map}
use Rattle.std.proofs.lemmas.List.Elements.{All-take}
use Rattle.std.proofs.lemmas.Str.{IsCharBoundary-from_take, IsUtf8-from_is_utf8}
use Rattle.std.specs.List.{All, list_all}
use Rattle.std.specs.Str.{is_utf8}
use Rattle.definitions.specs.Values.{Text}
use Rattle.basic_output.specs.Buffers.{buffer_text}
use Rattle.basic_output.specs.Spans.{IsSpan, ascends, last_end, order_of, span_text, text_at}
use Rattle.basic_output.specs.Units.{unit_texts}
use Rattle.basic_output.specs.declared.units.Span.{Span}
use Rattle.basic_output.proofs.BufferLaws.{whole_buffer}
use Rattle.basic_output.proofs.OrderLaws.{all_below, front_order, texts_before}
use Rattle.basic_output.proofs.SpanLaws.{ascends_take, cut, whole_at_last}
use Rattle.basic_output.proofs.units.Units.cut_to.Goals as goal

pub returns-then-self : goal.returns-then-self
unfolding unit_texts
returns-then-self c =
    let old = c.args.self.now in
    let at = text_at (buffer_text old.text) old.spans.items in
    ap (map at) c.truncate.ensures.items ∙ sym (take-map at c.args.units old.order.items)

pub truncate-requires-3 : goal.truncate-requires-3
truncate-requires-3 c =
    let old = c.args.self.now in
    let t = buffer_text old.text in
    let left = take c.args.units old.spans.items in
    let r = c.end_of.result in
    let end = c.end_of.ensures ∙ ap (last_end 0) (c.as_slice-2.ensures.value ∙ c.truncate-2.ensures.items) in
    let whole = ap (λ i. is_utf8 (take i t)) end ∙ whole_at_last t left (All-take (IsSpan t) c.args.units old.spans.items old.are_spans) in
    λ le. IsCharBoundary-from_take t r (whole_buffer old.text) le (IsUtf8-from_is_utf8 (take r t) whole)

-- the order of what stays is that of the spans that stay
stays : (m : ℕ) (order items : List ℕ) (ss seen : List Span) → items ≡ take m order → order ≡ order_of ss → seen ≡ ss → list_all (λ (s : Span). nat_le m s.position) (drop m seen) ≡ true → items ≡ order_of (take m ss)
stays m order items ss seen left is_ordered same behind = left ∙ ap (take m) is_ordered ∙ front_order m ss (ap (λ xs. list_all (λ (s : Span). nat_le m s.position) (drop m xs)) (sym same) ∙ behind)

pub invariant_of-self-2 : goal.invariant_of-self-2
invariant_of-self-2 c =
    let old = c.args.self.now in
    let m = c.args.units in
    let ss = old.spans.items in
    let t = buffer_text old.text in
    let up = ascends_take m 0 ss old.ascend in
    let v = cut t (take m ss) up (All-take (IsSpan t) m ss old.are_spans) in
    let left = c.truncate-2.ensures.items in
    let bytes = c.truncate-3.ensures ∙ ap (λ i. take i t) (c.end_of.ensures ∙ ap (last_end 0) (c.as_slice-2.ensures.value ∙ left)) in
    let stay = λ (e : old.is_unordered ≡ false). stays m old.order.items c.truncate.new.self.items ss c.as_slice.result.now c.truncate.ensures.items (old.is_ordered e) c.as_slice.ensures.value (sym c.if-not-are_put_behind.ensures) in
    record {
      are_spans = subst (λ xs. All (IsSpan (buffer_text c.truncate-3.new.self)) xs) (sym left) (subst (λ b. All (IsSpan b) (take m ss)) (sym bytes) v.are_spans);
      ascend = ap (ascends 0) left ∙ up;
      within = subst (λ xs. All (λ i. i < length xs) c.truncate.new.self.items) (sym left) (subst (λ o. All (λ i. i < length (take m ss)) o) (sym (stay c.if-self.false)) (all_below (take m ss)));
      is_ordered = λ e. stay e ∙ ap order_of (sym left);
    }

pub returns : goal.returns
unfolding unit_texts
returns c =
    let old = c.args.self.now in
    let m = c.args.units in
    let ss = old.spans.items in
    let order = old.order.items in
    let t = buffer_text old.text in
    let g = span_text t in
    let v = cut t (take m ss) (ascends_take m 0 ss old.ascend) (All-take (IsSpan t) m ss old.are_spans) in
    let left = c.truncate-2.ensures.items in
    let bytes = c.truncate-3.ensures ∙ ap (λ i. take i t) (c.end_of.ensures ∙ ap (last_end 0) (c.as_slice-2.ensures.value ∙ left)) in
    let stay = stays m order c.truncate.new.self.items ss c.as_slice.result.now c.truncate.ensures.items (old.is_ordered c.if-self.false) c.as_slice.ensures.value (sym c.if-not-are_put_behind.ensures) in
    let texts : map (span_text (buffer_text c.truncate-3.new.self)) c.truncate-2.new.self.items ≡ map g (take m ss) = ap₂ (λ b xs. map (span_text b) xs) bytes left ∙ v.same in
    let parts : map g (take m ss) ++ map g (drop m ss) ≡ map g ss = sym (map-append g (take m ss) (drop m ss)) ∙ ap (map g) (take-append-drop m ss) in
    let within = subst (λ n. All (λ i. i < n) c.truncate.new.self.items) (sym (length-map (take m ss) g)) (subst (λ o. All (λ i. i < length (take m ss)) o) (sym stay) (all_below (take m ss))) in
    let at = λ (ts : List Text) (i : ℕ). slice_index_or ts i [] in
    ap (λ ts. map (at ts) c.truncate.new.self.items) texts
    ∙ sym (texts_before (map g (take m ss)) (map g (drop m ss)) c.truncate.new.self.items within)
    ∙ ap₂ (λ ts o. map (at ts) o) parts c.truncate.ensures.items
    ∙ sym (take-map (at (map g ss)) m order)
