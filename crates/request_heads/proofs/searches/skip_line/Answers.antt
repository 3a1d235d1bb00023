use Rattle.std.proofs.Common.{◌≡◌, ◌≤◌, ◌-◌, length, take, drop, refl, arith}
use Rattle.std.proofs.lemmas.List.{length-drop, length-take-le}
use Rattle.request_heads.proofs.Limits.{sought_on}
use Rattle.request_heads.proofs.Lines.{no_feeds}
use Rattle.request_heads.proofs.searches.skip_line.Goals as goal
use Rattle.request_heads.proofs.searches.skip_line.Goals.{in-Some, in-None}

pub returns-clause-sought : goal.returns-clause-sought
returns-clause-sought c =
    let bytes = c.args.bytes.now in
    let s = c.args.search.now in
    let count = c.match-memchr.search in
    let n = c.min.result - s.len in
    let x = c.requires.searched in
    let whole : length (take n (drop s.len bytes)) ≡ n = length-take-le n (drop s.len bytes) (omega (arith, length-drop s.len bytes, c.min.ensures)) in
    elim c.match-memchr.branch [
      | in-Some w ↦
          let found = w.in-Some.ensures.0 in
          let less : count ≤ n = omega (arith, found.high, whole, w.search-is) in
          sought_on bytes s _ count x (λ i below. no_feeds bytes s.len n w.in-Some.place found.before (omega (arith, less, w.search-is)) i (omega (arith, below, w.search-is)))
          (omega (arith, less, c.min.ensures, x.within, x.short)) (omega (arith, less, c.min.ensures, x.within, x.short)) refl refl
      | in-None w ↦
          let less : count ≤ n = omega (arith, whole, w.search-is) in
          sought_on bytes s _ count x (λ i below. no_feeds bytes s.len n _ w.in-None.ensures (omega (arith, whole)) i (omega (arith, below, w.search-is)))
          (omega (arith, less, c.min.ensures, x.within, x.short)) (omega (arith, less, c.min.ensures, x.within, x.short)) refl refl
    ]
