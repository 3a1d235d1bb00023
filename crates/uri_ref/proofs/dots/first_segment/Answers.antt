use Rattle.std.proofs.Common.{◌≡◌, ◌+◌, ℕ, List, take, drop, rules, ap, sym, ◌∙◌}
use Rattle.std.proofs.lemmas.List.{take_rest}
use Rattle.uri_ref.proofs.Rules.{segment_some, segment_none, segment_boundary}
use Rattle.uri_ref.proofs.dots.first_segment.Goals as goal

pub range-requires-clause-end_boundary : goal.range-requires-clause-end_boundary
range-requires-clause-end_boundary c =
    segment_boundary c.args.path.now c.in-Some.at
    (sym (rw c.as_bytes-bytes.ensures.value at c.if-is_empty.ensures))
    (sym (rw (c.as_bytes-bytes.ensures.value, take_rest c.args.path.now 1) at c.in-Some.ensures))

pub range_from-requires : goal.range_from-requires
range_from-requires c _ =
    segment_boundary c.args.path.now c.in-Some.at
    (sym (rw c.as_bytes-bytes.ensures.value at c.if-is_empty.ensures))
    (sym (rw (c.as_bytes-bytes.ensures.value, take_rest c.args.path.now 1) at c.in-Some.ensures))

pub returns-in-Some-clause-segment : goal.returns-in-Some-clause-segment
returns-in-Some-clause-segment c =
    let run : c.range.result.now ≡ take (c.in-Some.at + 1) c.args.path.now = search rules in
    run ∙ ap (λ (r : List ℕ × List ℕ). r.0) (sym (segment_some c.args.path.now c.in-Some.at
    (sym (rw c.as_bytes-bytes.ensures.value at c.if-is_empty.ensures))
    (sym (rw (c.as_bytes-bytes.ensures.value, take_rest c.args.path.now 1) at c.in-Some.ensures))))

pub returns-in-Some-clause-rest : goal.returns-in-Some-clause-rest
returns-in-Some-clause-rest c =
    let run : c.range_from.result.now ≡ drop (c.in-Some.at + 1) c.args.path.now = search rules in
    run ∙ ap (λ (r : List ℕ × List ℕ). r.1) (sym (segment_some c.args.path.now c.in-Some.at
    (sym (rw c.as_bytes-bytes.ensures.value at c.if-is_empty.ensures))
    (sym (rw (c.as_bytes-bytes.ensures.value, take_rest c.args.path.now 1) at c.in-Some.ensures))))

pub returns-in-None-clause-segment : goal.returns-in-None-clause-segment
returns-in-None-clause-segment c =
    ap (λ (r : List ℕ × List ℕ). r.0) (sym (segment_none c.args.path.now
    (sym (rw c.as_bytes-bytes.ensures.value at c.if-is_empty.ensures))
    (sym (rw (c.as_bytes-bytes.ensures.value, take_rest c.args.path.now 1) at c.in-None.ensures))))

pub returns-in-None-clause-rest : goal.returns-in-None-clause-rest
returns-in-None-clause-rest c =
    ap (λ (r : List ℕ × List ℕ). r.1) (sym (segment_none c.args.path.now
    (sym (rw c.as_bytes-bytes.ensures.value at c.if-is_empty.ensures))
    (sym (rw (c.as_bytes-bytes.ensures.value, take_rest c.args.path.now 1) at c.in-None.ensures))))
