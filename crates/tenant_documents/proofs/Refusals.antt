-- What is refused for want of memory, and for else.
use Rattle.std.proofs.Common.{◌≢◌, ◌⊎◌, Result, Ok, Err, IfErr, OnOk, OnErr, inl, inr}
use Rattle.definitions.specs.Faults as meaning
use Rattle.faults.specs.View.{fault_view}
use Rattle.faults.specs.declared.Fault.{Fault}
use Rattle.faults.specs.declared.Fault.TheVariants.{NoRoom}

-- what holds of each fault but one, and of this one, holds of all
pub for_each_fault : (P : meaning.Fault → Type 0) (f : Fault) → (f ≢ NoRoom → P (fault_view f)) → P meaning.no_room → P (fault_view f)
for_each_fault P NoRoom h room = room
for_each_fault P f h room = h (λ e. cc)

pub err_more : {T E : Type 0} (P Q : E → Type 0) (r : Result T E) → ((e : E) → P e → Q e) → IfErr r P → IfErr r Q
err_more P Q (Ok x) h i = tt
err_more P Q (Err e) h i = h e i

pub either_way : {T E : Type 0} (P Q : Type 0) (r : Result T E) → OnOk r P → OnErr r Q → P ⊎ Q
either_way P Q (Ok x) p q = inl p
either_way P Q (Err e) p q = inr q
