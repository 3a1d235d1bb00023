-- What the paths of instances name, in order: what is accounted for.
use Rattle.std.specs.Prelude.{◌≡◌, ◌≢◌, ◌⊎◌, ◌++◌, ◌∷◌, [], ℕ, suc, Bool, true, false, List, Option, Some, None, IfSome, map, codes, if◌then◌else◌}
use Rattle.std.specs.Io.BufRead.{drop_through, first_piece}
use Rattle.std.specs.List.{list_all}
use Rattle.std.specs.Str.{bytes_eq}
use Rattle.definitions.specs.Values.{Text}
use Rattle.file_checks.specs.Lines.{is_space}

-- an instance by its path and by its line, if it is one; without a text what can't be read
pub record Subject : Type 0 where
  pub path : Text
  pub line : Option ℕ
  pub text : Option Text

abbrev pub unread : Text → Subject
unread path = record { path = path; line = None; text = None }

abbrev pub instance_at : Text → Option ℕ → Text → Subject
instance_at path line text = record { path = path; line = line; text = Some text }

abbrev pub Are : List Subject → List Subject → Type 0
Are wanted subjects = subjects ≡ wanted

-- ---- one after the other
pub record Follow (First Rest : List Subject → Type 0) (subjects : List Subject) : Type 0 where
  pub first : List Subject
  pub rest : List Subject
  pub is_first : First first
  pub is_rest : Rest rest
  pub are : subjects ≡ first ++ rest

-- those of each
abbrev pub OfEach : {A : Type 0} → (A → List Subject → Type 0) → List A → List Subject → Type 0
OfEach Of [] = Are []
OfEach Of (x ∷ xs) = Follow (Of x) (OfEach Of xs)

-- ---- a text as a whole
-- one instance, whose text is such a one, or that can't be read
pub record IsWhole (path : Text) (IsText : Text → Type 0) (subjects : List Subject) : Type 0 where
  pub text : Option Text
  pub is_text : IfSome text IsText
  pub are : subjects ≡ record { path = path; line = None; text = text } ∷ []

-- ---- a text line by line
-- a blank line is none
abbrev pub of_line : Text → ℕ → Text → List Subject
of_line path number line = if list_all is_space line then [] else instance_at path (Some number) line ∷ []

-- those of lines, of which the first has this number
abbrev pub of_lines : Text → ℕ → List Text → List Subject
of_lines path number [] = []
of_lines path number (line ∷ lines) = of_line path number line ++ of_lines path (suc number) lines

-- these are the first lines of the text, and this is what is behind them
abbrev pub AreFirstLines : List Text → Text → Text → Type 0
AreFirstLines [] text rest = rest ≡ text
AreFirstLines (line ∷ lines) text rest = (text ≢ []) × (line ≡ first_piece 10 text) × AreFirstLines lines (drop_through 10 text) rest

-- all lines, from 1 on; or the first of them, up to where the text can't be read
pub record AreLines (path : Text) (text : Option Text) (subjects : List Subject) : Type 0 where
  pub lines : List Text
  pub rest : Text
  pub are_first : IfSome text (λ whole. AreFirstLines lines whole rest)
  pub are : ((rest ≡ []) × (subjects ≡ of_lines path 1 lines)) ⊎ (subjects ≡ of_lines path 1 lines ++ unread path ∷ [])

-- ---- files
-- Whether the file at a path holds a text, and whether a path names files with such endings
abbrev pub Holds : Type 1
Holds = Text → Text → Type 0

abbrev pub Lists : Type 1
Lists = Text → List Text → List Text → Type 0

pub record AreLinesOf (path : Text) (IsText : Text → Type 0) (subjects : List Subject) : Type 0 where
  pub text : Option Text
  pub is_text : IfSome text IsText
  pub are : AreLines path text subjects

-- a file as one instance, or line by line
abbrev pub OfFile : Holds → Bool → Text → List Subject → Type 0
OfFile holds true path = AreLinesOf path (holds path)
OfFile holds false path = IsWhole path (holds path)

-- the folders that can't be read, and then the files
abbrev pub OfFound : Holds → Bool → List Text → List Text → List Subject → Type 0
OfFound holds lines folders files = Follow (Are (map unread folders)) (OfEach (OfFile holds lines) files)

-- ---- arguments
abbrev pub endings_of : Bool → List Text
endings_of true = codes ".ndjson" ∷ codes ".jsonl" ∷ []
endings_of false = codes ".json" ∷ []

-- the files that the path names, behind the folders below it that can't be read; or nothing can be found there
pub record OfFiles (holds : Holds) (lists : Lists) (lines : Bool) (path : Text) (subjects : List Subject) : Type 0 where
  pub folders : List Text
  pub files : List Text
  pub listed : lists path (endings_of lines) files
  pub are : OfFound holds lines folders files subjects

abbrev pub OfPath : Holds → Lists → Bool → Text → List Subject → Type 0
OfPath holds lists lines path subjects = OfFiles holds lists lines path subjects ⊎ Are (unread path ∷ []) subjects

-- standard input has the name `-`
abbrev pub OfInput : Bool → Option Text → List Subject → Type 0
OfInput true left = AreLines (codes "-") left
OfInput false left = IsWhole (codes "-") (λ text. IfSome left (λ l. text ≡ l))

-- an argument, before which standard input had the first text left, and behind it the second
abbrev pub OfNamed : Holds → Lists → Bool → Text → Option Text → Option Text → Bool → List Subject → Type 0
OfNamed holds lists lines path before after true subjects = OfInput lines before subjects
OfNamed holds lists lines path before after false subjects = (after ≡ before) × OfPath holds lists lines path subjects

abbrev pub OfArgument : Holds → Lists → Bool → Text → Option Text → Option Text → List Subject → Type 0
OfArgument holds lists lines path before after = OfNamed holds lists lines path before after (bytes_eq path (codes "-"))

-- all arguments, in order
abbrev pub OfArguments : Holds → Lists → Bool → List Text → Option Text → Option Text → List Subject → Type 0
OfArguments holds lists lines [] before after subjects = (after ≡ before) × (subjects ≡ [])
OfArguments holds lists lines (path ∷ paths) before after subjects =
    (between : Option Text)
    × Follow (OfArgument holds lists lines path before between) (OfArguments holds lists lines paths between after) subjects
