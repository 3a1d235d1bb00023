use Rattle.std.proofs.Common.{List, subst}
use Rattle.definitions.specs.Services.{KeyedRegistry}
use Rattle.http_front.specs.HubAnswers.{handler_view}
use Rattle.http_front.specs.SideBySide.{AreServedSideBySide}
use Rattle.http_front.proofs.Kept.{answered_alone}
use Rattle.http_front.proofs.side_by_side.serve_side_by_side.Goals as goal

pub returns-in-Ok : goal.returns-in-Ok
returns-in-Ok g c =
    subst (λ (ks : List KeyedRegistry). AreServedSideBySide ks (g.N.Network.reads c.args.network.now) (g.N.Network.writes c.args.network.now) (g.N.Network.reads c.serve_noted-handler.new.network) (g.N.Network.writes c.serve_noted-handler.new.network))
    c.new-handler.ensures (answered_alone handler_view _ c.new-handler.result c.serve_noted-handler.result.0 _ _ _ _ c.serve_noted-handler.ensures.served)

pub returns : goal.returns
returns g c =
    subst (λ (ks : List KeyedRegistry). AreServedSideBySide ks (g.N.Network.reads c.args.network.now) (g.N.Network.writes c.args.network.now) (g.N.Network.reads c.serve_noted-handler.new.network) (g.N.Network.writes c.serve_noted-handler.new.network))
    c.new-handler.ensures (answered_alone handler_view _ c.new-handler.result c.serve_noted-handler.result.0 _ _ _ _ c.serve_noted-handler.ensures.served)
