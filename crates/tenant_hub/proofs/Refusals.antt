-- Refusals, want of memory aside.
use Rattle.std.proofs.Common.{◌≡◌, ◌≢◌, ◌⊎◌, refl, ap, inl, inr}
use Rattle.definitions.specs.Patterns.{regular_search}
use Rattle.definitions.specs.Registries.{Registry, Request, refused}
use Rattle.definitions.specs.Runs.{IsAnswer}
use Rattle.faults.specs.View.{fault_view}
use Rattle.faults.specs.declared.Fault as code

room_or_other : (f : code.Fault) → (f ≡ code.Fault.NoRoom) ⊎ (f ≢ code.Fault.NoRoom)
room_or_other code.Fault.NoRoom = inl refl
room_or_other f = inr (λ e. cc)

refused_by : (g : Registry) (q : Request) (f : code.Fault) → (f ≢ code.Fault.NoRoom → IsAnswer regular_search g q (refused (fault_view f)) g)
    → (f ≡ code.Fault.NoRoom) ⊎ (f ≢ code.Fault.NoRoom) → IsAnswer regular_search g q (refused (fault_view f)) g
refused_by g q f answer (inl room) = inr (inl (ap (λ e. refused (fault_view e)) room), refl)
refused_by g q f answer (inr other) = answer other

pub refusal : (g : Registry) (q : Request) (f : code.Fault) → (f ≢ code.Fault.NoRoom → IsAnswer regular_search g q (refused (fault_view f)) g)
    → IsAnswer regular_search g q (refused (fault_view f)) g
refusal g q f answer = refused_by g q f answer (room_or_other f)
