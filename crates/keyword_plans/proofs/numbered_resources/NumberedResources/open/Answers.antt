use Rattle.keyword_plans.proofs.KeptResources.{opened_after}
use Rattle.keyword_plans.proofs.numbered_resources.NumberedResources.open.Goals as goal

pub invariant_of-self : goal.invariant_of-self
invariant_of-self c =
    let kept = c.args.self.now in
    record {
      are_numbered = kept.are_numbered;
      opened_right =
          opened_after kept.linked.now kept.texts kept.opened c.insert.new.self c.args.numbers c.args.around.now c.args.id.now c.in_ok-uri.uri c.insert.result
          kept.opened_right c.insert.ensures.updates c.insert.ensures.err (c.is.ensures c.if-is.true) (c.is-then-is.ensures c.if-is-2.true) c.in_ok-uri.ensures;
      documents_right = kept.documents_right;
      anchored_right = kept.anchored_right;
    }
