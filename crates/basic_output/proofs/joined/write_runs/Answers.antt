use Rattle.std.specs.Prelude.{if◌then◌else◌, nat_eq}
use Rattle.lemmas.proofs.SomeValues.{none_some, some_same}
use Rattle.std.proofs.Common.{◌≡◌, Bool, Some, None, true, false, refl, ◌-◌, ◌++◌, ◌∷◌, [], Global, String, append-nil, get_or, string_bytes, slice_index_or, subst, sym, ap, ap₂, append_assoc, ◌∙◌}
use Rattle.std.proofs.lemmas.Bool.{eqb-true}
use Rattle.std.proofs.lemmas.List.{get_or_default}
use Rattle.basic_output.specs.Spans.{IsSpan, span_text, text_at}
use Rattle.basic_output.specs.declared.units.Span.{Span}
use Rattle.basic_output.proofs.OrderLaws.{text_there}
use Rattle.basic_output.proofs.SpanLaws.{merged, merged_text, run_on}
use Rattle.basic_output.proofs.joined.write_runs.Goals.{in-Some, in-None+in_ok-push_str-in-None+in_ok-push_str-in-None-2}
use Rattle.basic_output.proofs.joined.write_runs.Goals as goal

abbrev nowhere : Span
nowhere = record { start = 0; end = 0; position = 0 }

-- what was joined
joined_is : (b : Bool) (r s : Span) → Some s ≡ (if b then Some r else None) → (b ≡ true) × (s ≡ r)
joined_is true r s e = (refl, some_same e)
joined_is false r s e = absurd (none_some (sym e))

pub loop-place-init : goal.loop-place-init
loop-place-init c =
    let t = c.args.text.now in
    record {
      is = c.requires.spans c.args.first nowhere c.requires.first;
      written = ap (λ r. string_bytes c.args.out.now ++ r) (sym (text_there t c.args.spans.now c.args.first nowhere c.requires.first) ∙ sym (append-nil (text_at t c.args.spans.now c.args.first)));
    }

pub loop-place-preserved : goal.loop-place-preserved
loop-place-preserved c =
    let t = c.args.text.now in
    let i = c.loop-place.place-index in
    let ss = c.args.spans.now in
    let later = c.args.later.now in
    let run = c.loop-place.run in
    let place = get_or later i 0 in
    let within = c.requires.later i 0 c.loop-place-test.true in
    let next = slice_index_or ss place nowhere in
    let is_next : IsSpan t next = c.requires.spans place nowhere within in
    let on = run_on t (string_bytes c.args.out.now) (string_bytes c.loop-place.out) _ (text_at t ss c.args.first) (text_at t ss) run next later i place c.loop-place-test.true (get_or_default later i 0 place c.loop-place-test.true)
    (text_there t ss place nowhere within) c.loop-place.invariant.written in
    elim c.match-joined.branch [
      | in-Some w ↦
          let up : Span = record { start = run.start; end = next.end; position = next.position } in
          let is = joined_is (nat_eq (next.start - 1) run.end) up w.in-Some.joined (sym w.in-Some.is ∙ c.joined.ensures) in
          let joined : next.start - 1 ≡ run.end = eqb-true (next.start - 1) run.end is.0 in
          let all : c.match-joined.run ≡ up = w.run-is ∙ is.1 in
          record {
            is = subst (IsSpan t) (sym all) (merged t run next c.loop-place.invariant.is is_next joined);
            written = on (ap₂ (λ (o : String Global) s. string_bytes o ++ span_text t s) w.out-is all
                ∙ ap (λ r. string_bytes c.loop-place.out ++ r) (merged_text t run next c.loop-place.invariant.is is_next joined) ∙ sym (append_assoc (string_bytes c.loop-place.out) (span_text t run) (44 ∷ span_text t next)));
          }
      | in-None+in_ok-push_str-in-None+in_ok-push_str-in-None-2 w ↦
          record {
            is = subst (IsSpan t) (sym w.run-is) is_next;
            written = on (ap₂ (λ (o : String Global) s. string_bytes o ++ span_text t s) w.out-is w.run-is
                ∙ ap (λ b. b ++ span_text t next) (w.in_ok-push_str-in-None-2.ensures.bytes ∙ ap (λ b. b ++ 44 ∷ []) (w.in_ok-push_str-in-None.ensures.bytes ∙ ap (λ r. string_bytes c.loop-place.out ++ r) w.text_in.ensures))
                ∙ append_assoc (string_bytes c.loop-place.out ++ span_text t run) (44 ∷ []) (span_text t next));
          }
    ]
