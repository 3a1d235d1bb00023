use Rattle.std.proofs.Common.{◌≡◌, ◌<◌, ◌^◌, true, Ok, Some, decimal, sym, ap, ◌∙◌, arith}
use Rattle.std.proofs.lemmas.Fmt.{parse-decimal}
use Rattle.std.proofs.lemmas.Slice.Eq.{bytes_eq-Decides}
use Rattle.std.specs.Result.{result_ok}
use Rattle.std.specs.Str.{bytes_eq}
use Rattle.schema_scan.proofs.pointing.descending.index_of.Goals as goal
use Rattle.schema_scan.proofs.pointing.descending.index_of.Goals.{else-index-count-via-then-index-count+else-eq, else-index-count-via-else-index-count}

pub returns-in_err-index-clause-none : goal.returns-in_err-index-clause-none
returns-in_err-index-clause-none c = rw c.from_residual.ensures (λ i less e.
    let small : i < 2 ^ 64 = omega arith in
    let read : c.parse.result ≡ Ok i = parse-decimal 64 i c.args.token.now c.parse.result small small (sym e) c.parse.ensures.value.0 in
    let some : c.ok.result ≡ Some i = c.ok.ensures.value ∙ ap result_ok read in
    absurd (cc c.in_err-index.was))

pub returns-else-index-count-clause-none : goal.returns-else-index-count-clause-none
returns-else-index-count-clause-none c = λ i less e.
    let small : i < 2 ^ 64 = omega arith in
    let read : c.parse.result ≡ Ok i = parse-decimal 64 i c.args.token.now c.parse.result small small (sym e) c.parse.ensures.value.0 in
    let some : c.ok.result ≡ Some i = c.ok.ensures.value ∙ ap result_ok read in
    let same : Some c.in_ok-index.index ≡ Some i = sym c.in_ok-index.was ∙ some in
    let index : c.in_ok-index.index ≡ i = cc in
    elim c.else-index-count.branch [
      | else-index-count-via-then-index-count+else-eq w ↦
          let text : w.format.result.now ≡ c.args.token.now = w.format.ensures.text ∙ ap decimal index ∙ e in
          let equal : bytes_eq w.format.result.now c.args.token.now ≡ true = (bytes_eq-Decides w.format.result.now c.args.token.now).1 text in
          absurd (cc)
      | else-index-count-via-else-index-count w ↦ absurd (omega arith)
    ]
