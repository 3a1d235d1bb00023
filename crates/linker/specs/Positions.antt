-- Where a document stands among others in byte order of canonical URIs, or would be put.
use Rattle.std.specs.Prelude.{◌≡◌, ◌≢◌, ◌<◌, ◌≤◌, ℕ, List, Contains, length}
use Rattle.std.specs.List.{insert, HoldsAt}
use Rattle.definitions.specs.Values.{Text}
use Rattle.definitions.specs.Schemas.{Document}
use Rattle.definitions.specs.Documents.{documents_with}

-- the document that has the canonical URI
pub record StandsAt (ds : List Document) (uri : Text) (at : ℕ) : Type 0 where
  pub inside : at < length ds
  pub named : HoldsAt (λ d. d.canonical ≡ uri) ds at

-- none has it, and one that has it would be put here
pub record IsGap (ds : List Document) (uri : Text) (at : ℕ) : Type 0 where
  pub inside : at ≤ length ds
  pub put : (d : Document) → d.canonical ≡ uri → insert ds at d ≡ documents_with d ds
  pub absent : (d : Document) → Contains ds d → d.canonical ≢ uri
