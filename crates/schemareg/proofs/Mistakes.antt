-- Mistakes in the words go to standard error.
use Rattle.std.proofs.Common.{◌≡◌, ◌||◌, ◌∙◌, [], ◌∷◌, Bool, true, false, not, Err, refl, ap, inl, inr}
use Rattle.std.specs.List.{list_any}
use Rattle.clap.specs.Words.{IsAmong, Kinds, kind_of}
use Rattle.clap.specs.declared.error.kind.ErrorKind.{ErrorKind}
use Rattle.service_forms.specs.declared.stop.Stop.{Stop}
use Rattle.service_forms.specs.declared.stop.Stop.TheVariants.{Words, NotText, CannotRead, Refused, CannotWrite, CannotListen, CannotAccept, CannotLog, Told, TooManyConnections, Store}
use Rattle.service_forms.specs.Stops.{AreMistakes, IsFoundIn, is_error, is_request}

first_false : (a b : Bool) → (a || b) ≡ false → a ≡ false
first_false true b h = h
first_false false b h = refl

second_false : (a b : Bool) → (a || b) ≡ false → b ≡ false
second_false true b h = cc
second_false false b h = h

no_request : (kinds : Kinds) (kind : ErrorKind) → list_any is_request kinds ≡ false → IsAmong kind kinds → is_request kind ≡ false
no_request [] kind h found = absurd found
no_request (k ∷ ks) kind h found =
    elim found [
      | inl e ↦ ap is_request e ∙ first_false (is_request k) (list_any is_request ks) h
      | inr rest ↦ no_request ks kind (second_false (is_request k) (list_any is_request ks) h) rest
    ]

pub mistaken : (kinds : Kinds) (stop : Stop) → AreMistakes kinds → IsFoundIn kinds (Err stop) → is_error stop ≡ true
mistaken kinds (Words e) m found = ap not (no_request kinds (kind_of e) m.1 found)
mistaken kinds NotText m found = refl
mistaken kinds (CannotRead name) m found = refl
mistaken kinds (Refused f) m found = refl
mistaken kinds CannotWrite m found = refl
mistaken kinds (CannotListen address) m found = refl
mistaken kinds CannotAccept m found = refl
mistaken kinds (CannotLog path) m found = refl
mistaken kinds (TooManyConnections most) m found = refl
mistaken kinds Told m found = refl
mistaken kinds (Store s) m found = refl
