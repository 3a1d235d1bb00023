-- A server that is refused.
use Rattle.std.proofs.Common.{◌≡◌, ◌≢◌, ◌⊎◌, List, [], Result, Ok, Err, refl, inl, inr, arith}
use Rattle.definitions.specs.Faults as meaning
use Rattle.definitions.specs.Services.{KeyedRegistry}
use Rattle.faults.specs.View.{fault_view}
use Rattle.faults.specs.declared.Fault.{Fault}
use Rattle.faults.specs.declared.Fault.TheVariants.{NoRoom}
use Rattle.http_definitions.specs.Connections.{holding}
use Rattle.serving.specs.Transfers.{Transfer}
use Rattle.serving.specs.Exchanges.{wire}
use Rattle.serving.specs.Serving.{as_failure}
use Rattle.serving.proofs.Exchanged.{reads_nothing}
use Rattle.serving.proofs.Bounded.{nothing_read, bounded_by}
use Rattle.http_front.specs.Calls.{call_answers}
use Rattle.http_front.specs.Running.{IsHubServed, IsRun}
use Rattle.http_front.proofs.Isolated.{hub_served}

pub is_no_room : (f : Fault) → (f ≡ NoRoom) ⊎ (f ≢ NoRoom)
is_no_room NoRoom = inl refl
is_no_room f = inr (λ e. cc e)

pub refused_run : (server : Result (List KeyedRegistry) meaning.Fault) (reads writes : List Transfer) (f : Fault)
    → (f ≢ NoRoom → server ≡ Err (fault_view f)) → IsRun server reads writes (Err f) reads writes
refused_run (Err g) reads writes f why = ((λ other. cc (why other)), refl, refl)
refused_run (Ok ks) reads writes f why = elim (is_no_room f) [
  | inl e ↦ hub_served ks ks reads writes reads writes (as_failure (Err f))
      (inl (inr (inr (e, inl (holding [], [], inl refl, reads_nothing call_answers (wire ks reads writes)))))) (bounded_by reads reads 0 (nothing_read reads) (omega arith))
  | inr e ↦ absurd (cc (why e))
]
