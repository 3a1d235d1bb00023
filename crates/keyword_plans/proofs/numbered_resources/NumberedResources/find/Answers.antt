use Rattle.keyword_plans.proofs.KeptResources.{document_after}
use Rattle.keyword_plans.proofs.numbered_resources.NumberedResources.find.Goals as goal

pub invariant_of-self : goal.invariant_of-self
invariant_of-self c =
    let kept = c.args.self.now in
    record {
      are_numbered = kept.are_numbered;
      opened_right = kept.opened_right;
      documents_right =
          document_after kept.linked.now kept.texts kept.documents c.insert.new.self c.args.number c.in-Some.document c.args.uri.now c.insert.result
          kept.documents_right c.insert.ensures.updates c.insert.ensures.err (c.is.ensures c.if-is.true) c.in-Some.ensures;
      anchored_right = kept.anchored_right;
    }
