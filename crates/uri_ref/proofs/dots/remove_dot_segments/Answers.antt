use Rattle.std.proofs.Common.{◌≡◌, ◌==◌, ap, ◌∙◌, false, length, string_bytes, arith, ℕ, List}
use Rattle.uri_ref.proofs.Rules.{after_one, shorter_after}
use Rattle.uri_ref.proofs.dots.remove_dot_segments.Goals as goal

pub loop-rest-smaller : goal.loop-rest-smaller
loop-rest-smaller c =
    let more : (length c.loop-rest.rest.now == 0) ≡ false = grind (arith, c.is_empty.ensures, c.loop-rest-test.true) in
    shorter_after c.loop-rest.rest.now (string_bytes c.loop-rest.output) c.in_ok-rest.rest.now (string_bytes c.rewrite.new.output) more c.in_ok-rest.ensures.step

pub loop-rest-preserved : goal.loop-rest-preserved
loop-rest-preserved c =
    let more : (length c.loop-rest.rest.now == 0) ≡ false = grind (arith, c.is_empty.ensures, c.loop-rest-test.true) in
    record {
      utf8 = c.in_ok-rest.ensures.text;
      same =
          ap (λ (s : List ℕ × List ℕ). s.1) (after_one c.loop-rest.rest.now (string_bytes c.loop-rest.output) c.in_ok-rest.rest.now (string_bytes c.rewrite.new.output) more c.in_ok-rest.ensures.step)
          ∙ c.loop-rest.invariant.same;
    }
