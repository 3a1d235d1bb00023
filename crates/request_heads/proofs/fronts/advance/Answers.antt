use Rattle.std.proofs.Common.{refl, rules, arith, inl, inr, ◌+◌, ◌==◌, cond, ◌∙◌, ap}
use Rattle.std.specs.Prelude.{◌≡◌, take}
use Rattle.http_definitions.specs.Heads.{line_feeds}
use Rattle.request_heads.proofs.Limits.{many_are_past, long_is_past, feeds-next, no_feed_past, searched_feeds}
use Rattle.http_laws.proofs.HeadSizes.{feeds-take}
use Rattle.request_heads.proofs.fronts.advance.Goals as goal
use Rattle.request_heads.proofs.fronts.advance.Goals.{then-bytes-at-eq10+in_default+else-search-eq-MOST_LINE_FEEDS, else-bytes-at-eq10}

pub returns-then-search-eq-MOST_LINE_FEEDS-clause-some : goal.returns-then-search-eq-MOST_LINE_FEEDS-clause-some
returns-then-search-eq-MOST_LINE_FEEDS-clause-some c =
    let bytes = c.args.bytes.now in
    let at = c.args.search.now.len in
    let s = c.requires.searched in
    let past = c.in_default.ensures.none (search rules) in
    let feeds = feeds-next bytes at c.requires.more ∙ ap (λ b. line_feeds (take at bytes) + cond (b == 10) 1 0) c.if-bytes-at-eq10.true in
    let many : line_feeds (take (at + 1) bytes) ≡ 66 = omega (arith, feeds, s.feeds, c.if-search-eq-MOST_LINE_FEEDS.true) in
    inr (many_are_past bytes (at + 1) past many, inr (inr (omega (arith, many, feeds-take (at + 1) bytes))))

pub returns-then-search-eq-MOST_BYTES-clause-some : goal.returns-then-search-eq-MOST_BYTES-clause-some
returns-then-search-eq-MOST_BYTES-clause-some c =
    let bytes = c.args.bytes.now in
    let at = c.args.search.now.len in
    let s = c.requires.searched in
    let full = c.if-search-eq-MOST_BYTES.true in
    elim c.if-bytes-at-eq10.branch [
      | then-bytes-at-eq10+in_default+else-search-eq-MOST_LINE_FEEDS w ↦
          inr (long_is_past bytes (rw full at (w.in_default.ensures.none (search rules))), inr (inl (omega (arith, full, c.requires.more))))
      | else-bytes-at-eq10 w ↦
          inr (long_is_past bytes (rw full at (no_feed_past bytes at s.past (search rules))), inr (inl (omega (arith, full, c.requires.more))))
    ]

pub returns-clause-none : goal.returns-clause-none
returns-clause-none c e =
    let bytes = c.args.bytes.now in
    let at = c.args.search.now.len in
    let s = c.requires.searched in
    elim c.if-bytes-at-eq10.branch [
      | then-bytes-at-eq10+in_default+else-search-eq-MOST_LINE_FEEDS w ↦ (
        searched_feeds bytes _ _ s c.requires.more (w.in_default.ensures.none (search rules)) refl
            (search rules) (search rules) (search rules),
        refl,
      )
      | else-bytes-at-eq10 w ↦ (
        searched_feeds bytes _ _ s c.requires.more (no_feed_past bytes at s.past (search rules)) refl
            (search rules) (search rules) (search rules),
        refl,
      )
    ]
