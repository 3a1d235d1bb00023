-- Troubles of files.
use Rattle.std.proofs.Common.{◌≡◌, ◌∙◌, ℕ, Option, Some, None, ap, refl, sym, subst, inl, inr}
use Rattle.std.specs.Option.{IfSome}
use Rattle.definitions.specs.Values.{Text}
use Rattle.faults.specs.declared.Fault.{Fault}
use Rattle.faults.specs.declared.Fault.TheVariants.{NoRoom}
use Rattle.file_forms.specs.Refusals.{IsNoRoom, IsRefusal, IsUnread, IsUnwritten, MeansNoRoom, path_of}
use Rattle.file_forms.specs.declared.trouble.Refusal.{Refusal}
use Rattle.file_forms.specs.declared.trouble.Trouble.{Trouble}
use Rattle.file_forms.specs.declared.trouble.Trouble.TheVariants.{CannotRead, Refused, CannotWrite}

named : (o : Option Text) (path : Text) → o ≡ Some path → IfSome o (λ p. p ≡ path)
named o path e = subst (λ p. IfSome p (λ q. q ≡ path)) (sym e) refl

unnamed : (o : Option Text) (path : Text) → o ≡ None → IfSome o (λ p. p ≡ path)
unnamed o path e = subst (λ p. IfSome p (λ q. q ≡ path)) (sym e) tt

-- a refusal for want of memory
pub is_unread : (path : Text) (trouble : Trouble) → IsRefusal path None NoRoom trouble → IsUnread path trouble
is_unread path (Refused refusal) (inl x) = record { fault = x.fault_is; file = named (path_of refusal) path x.file; line = x.at }
is_unread path (Refused refusal) (inr x) = x
is_unread path (CannotRead p) x = absurd x
is_unread path (CannotWrite p) x = absurd x

pub no_room_of : (path : Text) (refusal : Refusal) → MeansNoRoom (Refused refusal) → IsNoRoom path refusal
no_room_of path refusal x = record { fault = x.0; file = unnamed (path_of refusal) path x.1; line = x.2 }

pub no_room_unread : (path : Text) (trouble : Trouble) → MeansNoRoom trouble → IsUnread path trouble
no_room_unread path (Refused refusal) x = no_room_of path refusal x
no_room_unread path (CannotRead p) x = absurd x
no_room_unread path (CannotWrite p) x = absurd x

pub no_room_unwritten : (path : Text) (trouble : Trouble) → MeansNoRoom trouble → IsUnwritten path trouble
no_room_unwritten path (Refused refusal) x = no_room_of path refusal x
no_room_unwritten path (CannotRead p) x = absurd x
no_room_unwritten path (CannotWrite p) x = absurd x

pub no_room_refusal : (path : Text) (line : Option ℕ) (fault : Fault) (trouble : Trouble) → MeansNoRoom trouble → IsRefusal path line fault trouble
no_room_refusal path line fault (Refused refusal) x = inr (no_room_of path refusal x)
no_room_refusal path line fault (CannotRead p) x = absurd x
no_room_refusal path line fault (CannotWrite p) x = absurd x
