use Rattle.std.proofs.Common.{string_bytes, refl}
use Rattle.std.proofs.lemmas.Str.{IsUtf8-string_bytes}
use Rattle.locations.proofs.WayLaws.{one_more}
use Rattle.locations.proofs.ways.own.Goals as goal

pub loop-step-preserved : goal.loop-step-preserved
loop-step-preserved c =
    let l = c.loop-step in
    let names = l.names in
    let after = c.keep_step.new.names in
    let more =
    one_more l.owned.items c.push.new.self.items (string_bytes names) (string_bytes after) c.args.steps.now l.step-index _ _ c.in_ok-keep_step.field-0
    c.loop-step-test.true refl (IsUtf8-string_bytes names) (IsUtf8-string_bytes after) l.invariant.cut l.invariant.hops
    c.in_ok-keep_step.ensures.names c.in_ok-keep_step.ensures.kept c.in_ok-push.ensures.items in
    record { cut = more.0; hops = more.1 }
