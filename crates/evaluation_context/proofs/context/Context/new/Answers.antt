use Rattle.std.proofs.Common.{◌≡◌, [], None, refl, ap, ◌∙◌}
use Rattle.definitions.specs.Schemas.{Identity}
use Rattle.basic_output.specs.PointerViews.{origin_view}
use Rattle.evaluation_context.specs.RunningViews.{path_pointer}
use Rattle.evaluation_context.specs.Standings.{Standing, application_at}
use Rattle.evaluation_context.specs.Frames.{context_view, frame_standing}
use Rattle.evaluation_context.proofs.FrameLaws.{pointer_begins, same_locations, same_standings}
use Rattle.evaluation_context.proofs.context.Context.new.Goals as goal

pub returns-clause-there : goal.returns-clause-there
unfolding context_view frame_standing
returns-clause-there c = λ root x is.
    let start : Standing = record { path = []; resource = root.resource; pointer = root.pointer; instance_location = record { pointer = []; name = None }; scope = []; running = [] } in
    let s = c.args.start in
    ap (λ st. application_at st root.value x)
    (same_standings {t = start}
    is.path
    (ap (λ (i : Identity). i.0) is.origin)
    (pointer_begins (origin_view s.origin.value).1 (path_pointer s.running) ∙ ap (λ (i : Identity). i.1) is.origin)
    (same_locations is.instance_location refl)
    c.new.ensures.uris
    is.running)
