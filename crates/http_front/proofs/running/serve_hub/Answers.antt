use Rattle.std.proofs.Common.{Err, ap, ◌∙◌}
use Rattle.serving.specs.declared.failure.Failure.TheVariants.{Fault}
use Rattle.http_front.specs.HubAnswers.{handler_view}
use Rattle.http_front.proofs.Isolated.{served_as}
use Rattle.http_front.proofs.running.serve_hub.Goals as goal

pub returns-in-Ok : goal.returns-in-Ok
returns-in-Ok g c =
    served_as _ _ (handler_view c.serve_connection-handler.result.0) _ _ _ _ _ _ c.new.ensures c.in-Ok.is c.serve_connection-handler.ensures.served c.serve_connection-handler.ensures.bounded

pub returns-in-Err-Fault : goal.returns-in-Err-Fault
returns-in-Err-Fault g c =
    served_as _ _ (handler_view c.serve_connection-handler.result.0) _ _ _ _ _ _ c.new.ensures (c.in-Err-Fault.is ∙ ap (λ e. Err e) (c.in-Err-Fault.field-0-is ∙ ap (λ f. Fault f) c.in-Err-Fault.fault-is))
    c.serve_connection-handler.ensures.served c.serve_connection-handler.ensures.bounded

-- a hub keeps nothing
pub returns : goal.returns
returns g c = absurd (c.serve_connection-handler.ensures.keeps _ (c.in-Err-Unsettled.is ∙ ap (λ e. Err e) c.in-Err-Unsettled.field-0-is))
