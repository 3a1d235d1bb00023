-- What a keyword applies, as the definitions have it.
use Rattle.std.specs.Prelude.{ℕ, List, [], ◌∷◌, Option, Some, None, decimal, map}
use Rattle.definitions.specs.Values.{Text, Value}
use Rattle.definitions.specs.Pointers.{Pointer}
use Rattle.definitions.specs.Keywords.{Meaning}
use Rattle.definitions.specs.Applied as definition
use Rattle.definitions.specs.Applied.{Application, Outcome, Rules, whole, named, indexed, name_of, keyword_applications, part_application, at_part}
use Rattle.json_doc.specs.Docs.{value}
use Rattle.json_doc.specs.NamedMembers.{name_text}
use Rattle.locations.specs.declared.step.Step.{Step}
use Rattle.locations.specs.Steps.{token}
use Rattle.applicators.specs.Origins.{schema_at_origin}
use Rattle.applicators.specs.Subjects.{subject_value}
use Rattle.applicators.specs.declared.planned.Planned.{Planned}
use Rattle.applicators.specs.declared.planned.Way.{Way}
use Rattle.applicators.specs.declared.planned.Way.TheVariants.{Own, Target}
use Rattle.applicators.specs.declared.planned.Way.TheVariants as way
use Rattle.applicators.specs.declared.planned.Part.{Part}
use Rattle.applicators.specs.declared.planned.Part.TheVariants.{Whole, Member, Element, NameOf}

abbrev pub part_view : Part → definition.Part
part_view Whole = whole
part_view (Member name) = named (name_text name)
part_view (Element i) = indexed i
part_view (NameOf name) = name_of (name_text name)

abbrev pub step_view : Option Step → Pointer
step_view None = []
step_view (Some step) = token step ∷ []

-- the tokens that lead from a keyword to the schema, where no reference names it
abbrev pub way_view : Way → Pointer
way_view Own = []
way_view (way.Member name) = name_text name ∷ []
way_view (way.Element i) = decimal i ∷ []
way_view (Target origin) = []

-- the application of the schema v, which is planned under the keyword k of the application a
abbrev pub way_application : Text → Application → Way → Value → definition.Part → Value → Application
way_application k a Own v part x = (at_part a (k ∷ []) v part x).1
way_application k a (way.Member name) v part x = (at_part a (k ∷ name_text name ∷ []) v part x).1
way_application k a (way.Element i) v part x = (at_part a (k ∷ decimal i ∷ []) v part x).1
way_application k a (Target origin) v part x = part_application a (k ∷ []) (schema_at_origin origin.value v) part x

abbrev pub planned_view : Text → Application → Planned → definition.Part × Application
planned_view k a p = (part_view p.part, way_application k a p.way (value p.schema.now) (part_view p.part) (subject_value p.subject))

-- what the keyword with this value applied, each with its outcome
abbrev pub outcomes_of : Rules → (Application → Outcome) → List Text → List ℕ → Application → Text → Meaning → Value → List (definition.Part × Outcome)
outcomes_of rules run names indexes a k meaning v = map (λ e. (e.0, run e.1)) (keyword_applications rules run names indexes a k meaning v)
