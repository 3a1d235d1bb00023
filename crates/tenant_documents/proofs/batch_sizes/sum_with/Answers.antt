use Rattle.std.proofs.Common.{◌+◌, ◌^◌, ◌≤◌, ap, subst, arith}
use Rattle.tenant_documents.specs.Puts.{IsSum}
use Rattle.tenant_documents.proofs.Sums.{as_sum}
use Rattle.tenant_documents.proofs.batch_sizes.sum_with.Goals as goal

pub returns-in-Some : goal.returns-in-Some
returns-in-Some c all is =
    as_sum c.checked_add.result c.in-Some.sum c.args.more (all + c.args.more) c.checked_add.ensures
    (ap (λ n. n + c.args.more) (subst (λ o. IsSum o all) c.in-Some.is is))

pub returns-in-None : goal.returns-in-None
returns-in-None c all is =
    let over : 2 ^ 64 ≤ all = subst (λ o. IsSum o all) c.in-None.is is in
    omega (arith, over)
