use Rattle.std.proofs.Common.{◌≡◌, ◌<◌, ◌+◌, ◌++◌, ◌∷◌, ℕ, List, [], length, map, min, slice_index_or, suc, subst, sym, ap, ap₂, ◌∙◌, arith}
use Rattle.std.proofs.lemmas.List.{length-append, length-map}
use Rattle.std.specs.List.{All, insert}
use Rattle.lemmas.proofs.Results.{on_err}
use Rattle.definitions.specs.Values.{Text}
use Rattle.basic_output.specs.Parts.{text_of_unit}
use Rattle.basic_output.specs.Sayings.{says_value}
use Rattle.basic_output.specs.Buffers.{buffer_text}
use Rattle.basic_output.specs.Spans.{order_of, span_text, text_at, texts_in_order}
use Rattle.basic_output.specs.Units.{unit_texts}
use Rattle.basic_output.specs.declared.units.Span.{Span}
use Rattle.basic_output.proofs.OrderLaws.{below_more, below_put, order_on, texts_before, texts_put}
use Rattle.basic_output.proofs.SpanLaws.{grown, noted}
use Rattle.basic_output.proofs.UnitLaws.{insert_min}
use Rattle.basic_output.proofs.units.Units.insert.Goals as goal

pub returns-in_err-push-clause-unchanged : goal.returns-in_err-push-clause-unchanged
unfolding unit_texts
returns-in_err-push-clause-unchanged c =
    let old = c.args.self.now in
    let b = buffer_text c.append_unit.new.out in
    on_err c.from_residual-in_err-push.result
    (ap (λ xs. texts_in_order b xs old.order.items) c.in_err-push.ensures.items
    ∙ ap (λ (ts : List Text). map (λ i. slice_index_or ts i []) old.order.items) (grown (buffer_text old.text) _ b old.spans.items c.in_ok-append_unit.ensures old.ascend old.are_spans).same)

-- a place more within one span more
within_one : (n p : ℕ) (order : List ℕ) (ss xs : List Span) (s : Span) → n ≡ length ss → xs ≡ ss ++ s ∷ [] → All (λ i. i < length ss) order → All (λ i. i < length xs) (insert order p n)
within_one n p order ss xs s place pushed within =
    subst (λ k. All (λ i. i < length xs) (insert order p k)) (sym place)
    (below_more (suc (length ss)) (length xs) (insert order p (length ss)) (omega (arith, ap length pushed, length-append ss (s ∷ []))) (below_put (length ss) p order within))

pub invariant_of-self-in-Ok : goal.invariant_of-self-in-Ok
invariant_of-self-in-Ok c =
    let old = c.args.self.now in
    let ss = old.spans.items in
    let p = c.min-position.result in
    let span : Span = record { start = c.len-start.result + 1; end = c.len-end.result; position = p } in
    let place : c.len-place.result ≡ length ss = c.len-place.ensures ∙ old.spans.ok.0 in
    let k = noted old c.append_unit.new.out _ span c.push.new.self.items c.in_ok-append_unit.ensures (omega (arith, c.len-start.ensures)) c.len-end.ensures c.in_ok-push.ensures.items in
    let on : insert (order_of ss) p (length ss) ≡ order_of (ss ++ span ∷ []) = sym (order_on 0 [] ss span ∙ ap (insert (order_of ss) p) (let e : 0 + length ss ≡ length ss = omega arith in e)) in
    record {
      are_spans = k.are_spans;
      ascend = k.ascend;
      within = subst (λ o. All (λ i. i < length c.push.new.self.items) o) (sym c.in-Ok.ensures.ok) (within_one c.len-place.result p old.order.items ss c.push.new.self.items span place c.in_ok-push.ensures.items old.within);
      is_ordered = λ e. c.in-Ok.ensures.ok ∙ ap₂ (λ o i. insert o p i) (old.is_ordered e) place ∙ on ∙ ap order_of (sym c.in_ok-push.ensures.items);
    }

pub invariant_of-self-in-Err : goal.invariant_of-self-in-Err
invariant_of-self-in-Err c =
    let old = c.args.self.now in
    let span : Span = record { start = c.len-start.result + 1; end = c.len-end.result; position = c.min-position.result } in
    let k = noted old c.append_unit.new.out _ span c.push.new.self.items c.in_ok-append_unit.ensures (omega (arith, c.len-start.ensures)) c.len-end.ensures c.in_ok-push.ensures.items in
    record {
      are_spans = k.are_spans;
      ascend = k.ascend;
      within = subst (λ o. All (λ i. i < length c.push.new.self.items) o) (sym c.in-Err.ensures.unchanged)
          (below_more (length old.spans.items) (length c.push.new.self.items) old.order.items (omega (arith, ap length c.in_ok-push.ensures.items, length-append old.spans.items (span ∷ []))) old.within);
      is_ordered = λ e. absurd (cc);
    }

pub returns-in-Ok-clause-ok : goal.returns-in-Ok-clause-ok
unfolding unit_texts
returns-in-Ok-clause-ok c =
    let old = c.args.self.now in
    let t = buffer_text old.text in
    let more = text_of_unit c.args.annotates c.args.location (says_value c.args.says) in
    let ss = old.spans.items in
    let order = old.order.items in
    let p = c.min-position.result in
    let span : Span = record { start = c.len-start.result + 1; end = c.len-end.result; position = p } in
    let k = noted old c.append_unit.new.out more span c.push.new.self.items c.in_ok-append_unit.ensures (omega (arith, c.len-start.ensures)) c.len-end.ensures c.in_ok-push.ensures.items in
    let place : c.len-place.result ≡ length (map (span_text t) ss) = c.len-place.ensures ∙ old.spans.ok.0 ∙ sym (length-map ss (span_text t)) in
    let texts = map (text_at t ss) order in
    let m = c.mark.inside.units in
    let position : p ≡ min m (length texts) = c.min-position.ensures ∙ ap (min m) (c.len.ensures ∙ old.order.ok.0 ∙ sym (length-map order (text_at t ss))) in
    ap₂ (λ (ts : List Text) o. map (λ i. slice_index_or ts i []) o) k.texts (c.in-Ok.ensures.ok ∙ ap (insert order p) place)
    ∙ texts_put (map (span_text t) ss) more order p (subst (λ n. All (λ i. i < n) order) (sym (length-map ss (span_text t))) old.within)
    ∙ ap (λ i. insert texts i more) position ∙ insert_min texts m more ∙ ap (λ i. insert texts i more) c.mark.view_is

pub returns-in-Err-clause-unchanged : goal.returns-in-Err-clause-unchanged
unfolding unit_texts
returns-in-Err-clause-unchanged c =
    let old = c.args.self.now in
    let g = span_text (buffer_text old.text) in
    let more = text_of_unit c.args.annotates c.args.location (says_value c.args.says) in
    let span : Span = record { start = c.len-start.result + 1; end = c.len-end.result; position = c.min-position.result } in
    let k = noted old c.append_unit.new.out more span c.push.new.self.items c.in_ok-append_unit.ensures (omega (arith, c.len-start.ensures)) c.len-end.ensures c.in_ok-push.ensures.items in
    ap₂ (λ (ts : List Text) o. map (λ i. slice_index_or ts i []) o) k.texts c.in-Err.ensures.unchanged
    ∙ texts_before (map g old.spans.items) (more ∷ []) old.order.items (subst (λ n. All (λ i. i < n) old.order.items) (sym (length-map old.spans.items g)) old.within)
