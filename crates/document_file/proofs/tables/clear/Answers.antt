use Rattle.std.proofs.Common.{rules, arith, ◌≡◌, ◌∷◌, [], List, get_or, true, false, ap}
use Rattle.sqlite_value.specs.Order.{Row as Entry}
use Rattle.sqlite_trees.specs.View.{IsClean}
use Rattle.document_file.specs.Entries.{has_key}
use Rattle.document_file.specs.Tables.{HasTable}
use Rattle.document_file.proofs.Turns.{dropped, ends, on_ok}
use Rattle.document_file.proofs.tables.clear.Goals as goal

pub returns-then-not-branch-clause-ok : goal.returns-then-not-branch-clause-ok
returns-then-not-branch-clause-ok g c clean one =
    let sought : IsClean (g.S.Store.view c.seek.new.self) = omega (arith, c.next.ensures.quiet.clean) in
    let sound = c.in_ok-seek.ensures.sound sought in
    let ended = rw c.if-not-branch.true at (c.in_ok-next.ensures.ok clean) in
    ends (record { table = c.requires; placed = c.in_ok-seek.ensures.ok sought; moved = (c.in_ok-next.ensures.moves clean).same }) (g.met.S.Store.ordered c.args.store.now sound) [] ended.0
    (λ e left h. absurd (cc))

pub returns-then-not-is_eq-clause-ok : goal.returns-then-not-is_eq-clause-ok
returns-then-not-is_eq-clause-ok g c clean one =
    let sought : IsClean (g.S.Store.view c.seek.new.self) = omega (arith, c.next.ensures.quiet.clean) in
    let sound = c.in_ok-seek.ensures.sound sought in
    let step = rw c.if-not-branch.false at (c.in_ok-next.ensures.ok clean) in
    let apart : has_key c.args.key.now c.next.new.row ≡ false = search rules in
    ends (record { table = c.requires; placed = c.in_ok-seek.ensures.ok sought; moved = (c.in_ok-next.ensures.moves clean).same }) (g.met.S.Store.ordered c.args.store.now sound)
    (c.next.new.row ∷ step.0) step.1 (λ e left h. rw (← ap (λ (l : List Entry). get_or l 0 []) h) apart)

pub returns-clause-ok : goal.returns-clause-ok
returns-clause-ok g c = on_ok c.remove.result (λ sets clean one.
    let moved : IsClean (g.S.Store.view c.next.new.self) = omega (arith, c.remove.ensures.quiet.clean) in
    let sought : IsClean (g.S.Store.view c.seek.new.self) = omega (arith, c.next.ensures.quiet.clean) in
    let step = rw c.if-not-branch.false at (c.in_ok-next.ensures.ok moved) in
    let has : has_key c.args.key.now c.next.new.row ≡ true = search rules in
    let table : HasTable (g.S.Store.view c.next.new.self) = search rules in
    dropped (record { table = c.requires; placed = c.in_ok-seek.ensures.ok sought; moved = (c.in_ok-next.ensures.moves moved).same }) step.0 step.1 has table (sets clean) one) c.remove.ensures.ok
