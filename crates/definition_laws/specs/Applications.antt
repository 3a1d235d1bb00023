-- What the laws say of what keywords apply (JSON Schema 2020-12 Core, 10 and 11).
use Rattle.std.specs.Prelude.{◌≡◌, ℕ, List, [], Some, true, false, Contains}
use Rattle.definitions.specs.Values.{Text, Value, get}
use Rattle.definitions.specs.Keywords.{Keyword, keywords}
use Rattle.definitions.specs.Schemas.{Document, table_of}
use Rattle.definitions.specs.Applied.{Application, Outcome, Part, Rules, keyword_applications}
use Rattle.definitions.specs.Outcomes.{outcome}

-- what a keyword of a schema of some documents applies is a schema of these documents
abbrev pub AppliedSchemasAreKnown : Type 0
AppliedSchemasAreKnown =
    (rules : Rules) (ds : List Document) → rules.schemas ≡ table_of ds →
    (run : Application → Outcome) (names : List Text) (indexes : List ℕ) (a : Application) (k : Keyword) (v : Value) (e : Part × Application) →
    Contains keywords k → Contains (table_of ds) a.schema → get k.name a.schema.value ≡ Some v →
    Contains (keyword_applications rules run names indexes a k.name k.meaning v) e → Contains (table_of ds) e.1.schema

abbrev pub FailingAnnotatesNothing : Type 0
FailingAnnotatesNothing = (rules : Rules) (n : ℕ) (a : Application) → (outcome rules n a).valid ≡ false → (outcome rules n a).annotations ≡ []

abbrev pub PassingReportsNoError : Type 0
PassingReportsNoError = (rules : Rules) (n : ℕ) (a : Application) → (outcome rules n a).valid ≡ true → (outcome rules n a).errors ≡ []
