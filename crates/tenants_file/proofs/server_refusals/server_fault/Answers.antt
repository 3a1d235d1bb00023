use Rattle.std.proofs.Common.{true, false, length, refl, sym, ◌∙◌}
use Rattle.std.proofs.lemmas.Bool.{le-ltb}
use Rattle.tenants_file.proofs.Refusals.{server_fault-is}
use Rattle.tenants_file.proofs.server_refusals.server_fault.Goals as goal

pub returns-then-not-are_keys : goal.returns-then-not-are_keys
returns-then-not-are_keys c =
    sym (server_fault-is c.args.tenants.now c.args.capacity true false false _
    (sym c.is_capacity.ensures ∙ c.if-not-is_capacity.false) (le-ltb 64 (length c.args.tenants.now) c.if-tenants-gt-MOST_TENANTS.false) (sym c.are_keys.ensures ∙ c.if-not-are_keys.true) refl)

pub returns-then-have_repeat : goal.returns-then-have_repeat
returns-then-have_repeat c =
    sym (server_fault-is c.args.tenants.now c.args.capacity true false true true
    (sym c.is_capacity.ensures ∙ c.if-not-is_capacity.false) (le-ltb 64 (length c.args.tenants.now) c.if-tenants-gt-MOST_TENANTS.false) (sym c.are_keys.ensures ∙ c.if-not-are_keys.false)
    (sym c.have_repeat.ensures ∙ c.if-have_repeat.true))

pub returns-else-have_repeat : goal.returns-else-have_repeat
returns-else-have_repeat c =
    sym (server_fault-is c.args.tenants.now c.args.capacity true false true false
    (sym c.is_capacity.ensures ∙ c.if-not-is_capacity.false) (le-ltb 64 (length c.args.tenants.now) c.if-tenants-gt-MOST_TENANTS.false) (sym c.are_keys.ensures ∙ c.if-not-are_keys.false)
    (sym c.have_repeat.ensures ∙ c.if-have_repeat.false))
