-- How often an instance was valid, and how many replies are no refusals.
use Rattle.std.specs.Prelude.{◌≡◌, ℕ, List, count_by, Bool, true, false, not, if◌then◌else◌, Ok, Err}
use Rattle.checks.specs.Judgements.{Judgement}
use Rattle.definitions.specs.Patterns.{regular_search}
use Rattle.definitions.specs.Registries.{Reply, refused, refused_at}
use Rattle.definitions.specs.Services.{KeyedRegistry, Call, CallCourse}

-- of so many judgements that are all the same
abbrev pub valid_count : Judgement → ℕ → ℕ
valid_count (Ok report) times = if report.0 then times else 0
valid_count (Err fault) times = 0

abbrev pub is_refused : Reply → Bool
is_refused (refused f) = true
is_refused (refused_at k f) = true
is_refused _ = false

abbrev pub answered_count : List Reply → ℕ
answered_count rs = count_by (λ r. not (is_refused r)) rs

-- of the replies that such calls may be given
abbrev pub CountsAnswered : List KeyedRegistry → List Call → ℕ → List KeyedRegistry → Type 0
CountsAnswered before cs count after =
    (rs : List Reply) × CallCourse regular_search before cs rs after × (count ≡ answered_count rs)
