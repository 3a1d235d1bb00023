-- What is told of a trouble.
use Rattle.std.specs.Prelude.{◌≡◌, ◌⊎◌, ◌++◌, ◌∷◌, [], ℕ, Option, Some, None, IfSome, codes, option_map, string_bytes}
use Rattle.definitions.specs.Bytes.{line_feed}
use Rattle.definitions.specs.Faults.{Fault}
use Rattle.definitions.specs.Values.{Text}
use Rattle.faults.specs.View.{fault_view, printed_text}
use Rattle.faults.specs.declared.Fault as code
use Rattle.file_forms.specs.RefusalLines.{refusal_line}
use Rattle.file_forms.specs.declared.trouble.Refusal.{Refusal}
use Rattle.file_forms.specs.declared.trouble.Trouble.{Trouble}
use Rattle.file_forms.specs.declared.trouble.Trouble.TheVariants.{CannotRead, Refused, CannotWrite}
use Rattle.plain_reports.specs.Shown.{shown_text}

abbrev pub path_of : Refusal → Option Text
path_of refusal = option_map (λ p. string_bytes p) refusal.path

-- memory ran out, for no file by its name
abbrev pub MeansNoRoom : Trouble → Type 0
MeansNoRoom (Refused refusal) = (refusal.fault ≡ code.Fault.NoRoom) × (path_of refusal ≡ None) × (refusal.line ≡ None)
MeansNoRoom _ = ⊥

-- memory ran out, for this file if one is named
pub record IsNoRoom (path : Text) (refusal : Refusal) : Type 0 where
  pub fault : refusal.fault ≡ code.Fault.NoRoom
  pub file : IfSome (path_of refusal) (λ p. p ≡ path)
  pub line : refusal.line ≡ None

-- the file or folder can't be read, or memory ran out
abbrev pub IsUnread : Text → Trouble → Type 0
IsUnread path (CannotRead p) = string_bytes p ≡ path
IsUnread path (Refused refusal) = IsNoRoom path refusal
IsUnread path (CannotWrite p) = ⊥

-- the file can't be written, or memory ran out
abbrev pub IsUnwritten : Text → Trouble → Type 0
IsUnwritten path (CannotWrite p) = string_bytes p ≡ path
IsUnwritten path (Refused refusal) = IsNoRoom path refusal
IsUnwritten path (CannotRead p) = ⊥

-- the file, or its line, is refused with the fault
pub record IsRefusedFor (path : Text) (line : Option ℕ) (fault : code.Fault) (refusal : Refusal) : Type 0 where
  pub file : path_of refusal ≡ Some path
  pub at : refusal.line ≡ line
  pub fault_is : refusal.fault ≡ fault

-- .. or memory ran out for its path
abbrev pub IsRefusal : Text → Option ℕ → code.Fault → Trouble → Type 0
IsRefusal path line fault (Refused refusal) = IsRefusedFor path line fault refusal ⊎ IsNoRoom path refusal
IsRefusal path line fault _ = ⊥

-- the line of a refusal, as it is shown, and below it another, which begins with two spaces
pub record IsRefusalText (path : Option Text) (line : Option ℕ) (fault : Fault) (told : Text) : Type 0 where
  pub below : Text
  pub lines : told ≡ shown_text (refusal_line path line fault) ++ codes "\n  " ++ below

-- the lines that tell a trouble, as they are shown
abbrev pub IsLineOf : Trouble → Text → Type 0
IsLineOf (CannotRead path) told = told ≡ codes "cannot read " ++ shown_text (string_bytes path) ++ line_feed ∷ []
IsLineOf (Refused refusal) told = IsRefusalText (path_of refusal) refusal.line (fault_view refusal.fault) told
IsLineOf (CannotWrite path) told = told ≡ codes "cannot write " ++ shown_text (string_bytes path) ++ line_feed ∷ []

-- why, in a few words: `1 BadJson`
abbrev pub reason_text : Trouble → Text
reason_text (CannotRead path) = codes "cannot read"
reason_text (Refused refusal) = printed_text (fault_view refusal.fault)
reason_text (CannotWrite path) = codes "cannot write"

-- its lines, or that memory ran out
abbrev pub IsTold : Trouble → Text → Type 0
IsTold trouble told = IsLineOf trouble told ⊎ (told ≡ codes "refused: 30 NoRoom\n")

-- one more trouble was told
pub record Tells (trouble : Trouble) (before after : Text) : Type 0 where
  pub lines : Text
  pub behind : after ≡ before ++ lines
  pub told : IsTold trouble lines
