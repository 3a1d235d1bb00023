use Rattle.std.proofs.Common.{ap, map, ◌∙◌, inl}
use Rattle.std.proofs.lemmas.Result.{IfErr-weaker, err_from_is_err_and}
use Rattle.definitions.specs.Tenants.{server_fault}
use Rattle.faults.specs.View.{fault_view}
use Rattle.tenants_file.specs.Tenants.{tenant_view}
use Rattle.tenant_hub.specs.RefusedServers.{batch_view, given_library}
use Rattle.tenant_hub.proofs.NewServers.{fault_refused, library_not_made, no_capacity}
use Rattle.tenant_hub.proofs.hub.Hub.new.Goals as goal

pub returns-in-Some-clause-err : goal.returns-in-Some-clause-err
returns-in-Some-clause-err c = λ other.
    inl (fault_refused (map tenant_view c.args.tenants.items) c.args.capacity (given_library (batch_view c.args.library)) (fault_view c.in-Some.fault)
    (c.in-Some.ensures ∙ ap (λ ts. server_fault (map tenant_view ts) c.args.capacity) c.deref.ensures.value))

pub returns-in_err-read_library-in-None-clause-err : goal.returns-in_err-read_library-in-None-clause-err
returns-in_err-read_library-in-None-clause-err c =
    let p = err_from_is_err_and c.from_residual.result c.from_residual.ensures.1 in
    rw (p.1, p.2) (λ other.
    library_not_made (map tenant_view c.args.tenants.items) c.args.capacity (batch_view c.args.library) _
    (c.in-None.ensures ∙ ap (λ ts. server_fault (map tenant_view ts) c.args.capacity) c.deref.ensures.value)
    (c.in_err-read_library-in-None.ensures.err other))

pub returns-in_ok-read_library-in-None-clause-err : goal.returns-in_ok-read_library-in-None-clause-err
returns-in_ok-read_library-in-None-clause-err c =
    IfErr-weaker c.over_library.result _ _ (λ f out other. absurd (no_capacity (map tenant_view c.args.tenants.items) c.args.capacity
    (c.in-None.ensures ∙ ap (λ ts. server_fault (map tenant_view ts) c.args.capacity) c.deref.ensures.value) (out other))) c.over_library.ensures.err
