use Rattle.std.proofs.Common.{◌∙◌}
use Rattle.keyword_plans.proofs.KeptResources.{anchored_after}
use Rattle.keyword_plans.proofs.numbered_resources.NumberedResources.find_anchored.Goals as goal

pub invariant_of-self : goal.invariant_of-self
invariant_of-self c =
    let kept = c.args.self.now in
    record {
      are_numbered = kept.are_numbered;
      opened_right = kept.opened_right;
      documents_right = kept.documents_right;
      anchored_right =
          anchored_after kept.linked.now kept.texts kept.anchored c.insert.new.self c.args.numbers c.args.uri.now c.args.name.now _ c.insert.result
          kept.anchored_right c.insert.ensures.updates c.insert.ensures.err (c.is.ensures c.if-is.true) (c.is-then-is.ensures c.if-is-2.true)
          (c.in_ok-kept.ensures ∙ c.in_ok-found.ensures);
    }
