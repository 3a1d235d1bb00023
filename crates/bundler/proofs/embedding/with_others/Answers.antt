use Rattle.std.proofs.Common.{ap₂, sym, ◌∙◌}
use Rattle.definitions.specs.Bundles.{put_member}
use Rattle.json_doc.specs.Docs.{members_value}
use Rattle.bundler.proofs.Puts.{embedded_more}
use Rattle.bundler.proofs.embedding.with_others.Goals as goal

pub loop-other-preserved : goal.loop-other-preserved
loop-other-preserved c =
    let o = c.other-item.result in
    c.in_ok-members.ensures.ok
    ∙ ap₂ (λ v ms. put_member o.uri.now v ms) c.in_ok-under_its_uri.ensures.ok c.loop-other.invariant
    ∙ sym (embedded_more c.args.others.now c.loop-other.other-index o (members_value c.args.defs) c.loop-other-test.true c.other-item.is c.requires)
