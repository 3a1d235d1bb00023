-- The answer to a validation, and the basic output's text (JSON Schema 2020-12 Core, 12.4.2).
use Rattle.std.specs.Prelude.{ℕ, List, [], ◌∷◌, ◌++◌, Bool, if◌then◌else◌, Option, Some, None, Result, Ok, Err, nat_lt, codes, map}
use Rattle.definitions.specs.Limits.{Limits, limits}
use Rattle.definitions.specs.Bytes.{number_sign}
use Rattle.definitions.specs.Values.{Text, Value, boolean, string, array, object, to_elements, to_members}
use Rattle.definitions.specs.Faults.{Fault, costly, loop, deep, not_found}
use Rattle.definitions.specs.Texts.{text}
use Rattle.definitions.specs.Pointers.{pointer_text, fragment_text}
use Rattle.definitions.specs.Keywords.{keywords}
use Rattle.definitions.specs.Schemas.{Schema, Document, table_of}
use Rattle.definitions.specs.Targets.{resource_root}
use Rattle.definitions.specs.Applied.{Application, Outcome, OutputUnit, Rules}
use Rattle.definitions.specs.Outcomes.{outcome}

-- the first application: the root, at the whole instance
abbrev pub first_application : Schema → Value → Application
first_application s x = record { schema = s; instance = x; instance_location = record { pointer = []; name = None }; path = []; scope = []; running = [] }

abbrev pub answer_of : ℕ → Outcome → Result Outcome Fault
answer_of most o =
    if nat_lt most o.count then Err costly
    else if o.looped then Err loop
    else if o.deep then Err deep
    else Ok o

abbrev pub answer_from : Limits → Rules → Value → Option Schema → Result Outcome Fault
answer_from most rules x None = Err not_found
answer_from most rules x (Some s) = answer_of most.applications (outcome rules most.nested_applications (first_application s x))

-- what the resource with this URI says of the instance, by rules over schemas in which no reference is missing
abbrev pub answer_by : Limits → Rules → Text → Value → Result Outcome Fault
answer_by most rules uri x = answer_from most rules x (resource_root rules.schemas uri)

abbrev pub rules_of : (Text → Text → Bool) → List Document → Rules
rules_of matches documents = record { keywords = keywords; schemas = table_of documents; matches = matches }

-- what the resource with this URI says of the instance, over these documents and by every keyword
abbrev pub answer : (Text → Text → Bool) → List Document → Text → Value → Result Outcome Fault
answer matches documents uri x = answer_by limits (rules_of matches documents) uri x

-- ---- the text
abbrev pub absolute_location : OutputUnit → Text
absolute_location u = u.resource ++ (number_sign ∷ fragment_text u.pointer)

abbrev pub unit_value : Text → OutputUnit → Value
unit_value kind u = object (to_members (
    (codes "absoluteKeywordLocation", string (absolute_location u)) ∷ (kind, u.says)
    ∷ (codes "instanceLocation", string (pointer_text u.instance_location)) ∷ (codes "keywordLocation", string (pointer_text u.path)) ∷ []))

abbrev pub units_value : Text → List OutputUnit → Value
units_value kind us = array (to_elements (map (unit_value kind) us))

abbrev pub output_value : Outcome → Value
output_value o =
    object (to_members (
    (if o.valid then (codes "annotations", units_value (codes "annotation") o.annotations) else (codes "errors", units_value (codes "error") o.errors))
    ∷ (codes "valid", boolean o.valid) ∷ []))

abbrev pub output_text : Outcome → Text
output_text o = text (output_value o)
