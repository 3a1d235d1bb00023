-- When alike tables of schemas give the same outcomes.
use Rattle.std.specs.Prelude.{◌≡◌, List, [], Bool, false}
use Rattle.definitions.specs.Values.{Text, Value, same_text}
use Rattle.definitions.specs.Lists.{has_repeat}
use Rattle.definitions.specs.Schemas.{Document, table_of}
use Rattle.definitions.specs.Targets.{resource_root}
use Rattle.definitions.specs.Applied.{Rules}
use Rattle.definitions.specs.Answers.{answer}
use Rattle.definitions.specs.Alike.{AreAlike, IsAlike, AlikeGiveTheSame}
use Rattle.definitions.specs.Reach.{reach, missing_references}
use Rattle.definitions.specs.Documents.{resource_uris_of}

abbrev pub AlikeTablesGiveTheSame : Type 0
AlikeTablesGiveTheSame = (rules : Rules) (ds es : List Document) → AlikeGiveTheSame rules ds es

-- and the same answers, refusals included, where the URI finds alike roots
abbrev pub AlikeTablesAnswerTheSame : Type 0
AlikeTablesAnswerTheSame =
    (matches : Text → Text → Bool) (ds es : List Document) (uri : Text) (x : Value) →
    IsAlike (table_of ds) (table_of es) → AreAlike (resource_root (table_of ds) uri) (resource_root (table_of es) uri) →
    answer matches es uri x ≡ answer matches ds uri x

-- over documents with distinct resource URIs: where no reference of what is reached is missing, nothing else matters
abbrev pub ReachIsEnough : Type 0
ReachIsEnough =
    (matches : Text → Text → Bool) (ds : List Document) (uri : Text) (x : Value) →
    has_repeat same_text (resource_uris_of ds) ≡ false → missing_references (reach ds uri) ≡ [] → answer matches ds uri x ≡ answer matches (reach ds uri) uri x
