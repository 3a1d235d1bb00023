use Rattle.std.proofs.Common.{arith, inl, inr}
use Rattle.http_laws.proofs.HeadEnds.{ends_at}
use Rattle.request_heads.proofs.searches.ends_empty_line.Goals as goal
use Rattle.request_heads.proofs.searches.ends_empty_line.Goals.{then-bytes-at-ne10-via-then-bytes-at-ne10, then-bytes-at-ne10-via-else-bytes-at-ne10+then-at-eq0}

pub returns-then-bytes-at-ne10 : goal.returns-then-bytes-at-ne10
returns-then-bytes-at-ne10 c e h more reads long =
    let x = ends_at c.args.bytes.now h more c.args.at reads long in
    elim c.then-bytes-at-ne10.branch [
      | then-bytes-at-ne10-via-then-bytes-at-ne10 w ↦ grind (arith, x.feed, w.if-bytes-at-ne10)
      | then-bytes-at-ne10-via-else-bytes-at-ne10+then-at-eq0 w ↦ grind (arith, x.later, w.if-at-eq0)
    ]

pub returns-then-at-gt1 : goal.returns-then-at-gt1
returns-then-at-gt1 c e h more reads long =
    let x = ends_at c.args.bytes.now h more c.args.at reads long in
    elim x.before [
      | inl y ↦ grind (arith, y, c.in-13.is)
      | inr y ↦ grind (arith, y.2, e)
    ]

pub returns-else-at-gt1 : goal.returns-else-at-gt1
returns-else-at-gt1 c e h more reads long =
    let x = ends_at c.args.bytes.now h more c.args.at reads long in
    elim x.before [
      | inl y ↦ grind (arith, y, c.in-13.is)
      | inr y ↦ grind (arith, y.1, e)
    ]

pub returns-in_default : goal.returns-in_default
returns-in_default c e h more reads long =
    let x = ends_at c.args.bytes.now h more c.args.at reads long in
    elim x.before [
      | inl y ↦ grind (arith, y, c.in_default)
      | inr y ↦ grind (arith, y.0, c.in_default)
    ]
