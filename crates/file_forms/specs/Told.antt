-- Troubles that are told one after the other.
use Rattle.std.specs.Prelude.{◌≡◌, ◌≢◌, ◌∷◌, [], Bool, true, false, List}
use Rattle.std.specs.List.{All}
use Rattle.definitions.specs.Values.{Text}
use Rattle.file_forms.specs.Refusals.{Tells}
use Rattle.file_forms.specs.declared.trouble.Trouble.{Trouble}

abbrev pub TellsAll : List Trouble → Text → Text → Type 0
TellsAll [] before after = after ≡ before
TellsAll (trouble ∷ troubles) before after = (between : Text) × Tells trouble before between × TellsAll troubles between after

-- troubles of which each is such a one
pub record TellsAny (Is : Trouble → Type 0) (before after : Text) : Type 0 where
  pub troubles : List Trouble
  pub each : All Is troubles
  pub told : TellsAll troubles before after

-- .. at least one
pub record TellsSome (Is : Trouble → Type 0) (before after : Text) : Type 0 where
  pub troubles : List Trouble
  pub some : troubles ≢ []
  pub each : All Is troubles
  pub told : TellsAll troubles before after

-- nothing was told where all is well, and else some trouble
abbrev pub ToldUnless : (Trouble → Type 0) → Bool → Text → Text → Type 0
ToldUnless Is true before after = after ≡ before
ToldUnless Is false before after = TellsSome Is before after
