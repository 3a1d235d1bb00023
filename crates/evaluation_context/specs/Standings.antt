-- Where an application of a schema stands, beside the schema's value and the instance's.
use Rattle.std.specs.Prelude.{List, [], ◌∷◌, ◌++◌}
use Rattle.definitions.specs.Values.{Text, Value}
use Rattle.definitions.specs.Pointers.{Pointer}
use Rattle.definitions.specs.Schemas.{Identity}
use Rattle.definitions.specs.Applied.{Application, OutputUnit, InstanceLocation}

pub record Standing : Type 0 where
  pub path : Pointer
  pub resource : Text
  pub pointer : Pointer
  pub instance_location : InstanceLocation
  pub scope : List Text
  pub running : List (Identity × InstanceLocation)

abbrev pub standing_of : Application → Standing
standing_of a = record {
  path = a.path;
  resource = a.schema.resource;
  pointer = a.schema.pointer;
  instance_location = a.instance_location;
  scope = a.scope;
  running = a.running;
}

-- the application of the schema s to the instance x there
abbrev pub application_at : Standing → Value → Value → Application
application_at st s x = record {
  schema = record { resource = st.resource; pointer = st.pointer; value = s };
  instance = x;
  instance_location = st.instance_location;
  path = st.path;
  scope = st.scope;
  running = st.running;
}

-- for what the schema object applies
abbrev pub within_object : Standing → Standing
within_object st = record st { scope = st.scope ++ st.resource ∷ []; running = st.running ++ ((st.resource, st.pointer), st.instance_location) ∷ [] }

-- at the keyword of this name
abbrev pub at_keyword : Text → Standing → Standing
at_keyword k st = record st { path = st.path ++ k ∷ []; pointer = st.pointer ++ k ∷ [] }

-- a unit of the output there
abbrev pub unit_there : Standing → Value → OutputUnit
unit_there st says = record { path = st.path; resource = st.resource; pointer = st.pointer; instance_location = st.instance_location.pointer; says = says }
