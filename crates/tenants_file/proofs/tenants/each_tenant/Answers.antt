use Rattle.std.proofs.Common.{◌∙◌, arith}
use Rattle.std.proofs.lemmas.Result.{err_from_is_err_and}
use Rattle.definitions.specs.Tenants.{tenant_in}
use Rattle.json_doc.specs.Docs.{value}
use Rattle.tenants_file.specs.Tenants.{tenant_view}
use Rattle.tenants_file.proofs.Each.{each_map, each_done, each_none}
use Rattle.tenants_file.proofs.tenants.each_tenant.Goals as goal

pub returns-in_err-tenant_of-clause-err : goal.returns-in_err-tenant_of-clause-err
returns-in_err-tenant_of-clause-err c =
    let p = err_from_is_err_and c.from_residual-in_err-tenant_of.result c.from_residual-in_err-tenant_of.ensures.1 in
    rw (p.1, p.2) (λ other.
    let f = c.in_err-tenant_of.ensures.err other in (
      f.0,
      each_map tenant_in value c.args.items.now
          ∙ each_none (λ d. tenant_in (value d)) c.args.items.now c.loop-item.item-index c.item-item.result c.loop-item-test.true c.item-item.is f.1,
    ))

pub returns-clause-ok : goal.returns-clause-ok
returns-clause-ok c =
    each_map tenant_in value c.args.items.now
    ∙ each_done (λ d. tenant_in (value d)) tenant_view c.args.items.now c.loop-item.tenants.items c.loop-item.item-index (omega arith) c.loop-item.invariant
