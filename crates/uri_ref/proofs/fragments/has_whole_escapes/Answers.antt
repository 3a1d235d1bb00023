use Rattle.std.proofs.Common.{◌-◌, ◌∙◌, length, take, drop, sym}
use Rattle.std.proofs.lemmas.List.{take_rest}
use Rattle.uri_ref.proofs.Percents.{byte_left, escape_left}
use Rattle.uri_ref.proofs.fragments.has_whole_escapes.Goals as goal

pub loop-rest-preserved-in-Some : goal.loop-rest-preserved-in-Some
loop-rest-preserved-in-Some c =
    let bs = c.loop-rest.rest.now in
    escape_left bs (take (length bs - 1) (drop 1 bs)) c.in-Some.next.now c.in-len1-up.len_at_least c.if-first-eq37.true (take_rest bs 1) (sym c.in-Some.ensures)
    ∙ c.loop-rest.invariant

pub loop-rest-preserved : goal.loop-rest-preserved
loop-rest-preserved c =
    let bs = c.loop-rest.rest.now in
    byte_left bs (take (length bs - 1) (drop 1 bs)) c.in-len1-up.len_at_least c.if-first-eq37.false (take_rest bs 1) ∙ c.loop-rest.invariant
