-- The registries of several tenants, and what requests do to them, each by its tenant's key.
use Rattle.std.specs.Prelude.{◌≡◌, ◌⊎◌, List, [], ◌∷◌, if◌then◌else◌, Option, Some, None, IsTrue, is_some}
use Rattle.definitions.specs.Values.{Text, same_text}
use Rattle.definitions.specs.Faults.{unknown_tenant}
use Rattle.definitions.specs.Searches.{Search}
use Rattle.definitions.specs.Registries.{Registry, Request, Reply, refused}
use Rattle.definitions.specs.Steps.{step}
use Rattle.definitions.specs.Runs.{IsForRoom}

pub record KeyedRegistry : Type 0 where
  pub key : Text
  pub registry : Registry

-- a request with its tenant's key
abbrev pub Call : Type 0
Call = Text × Request

-- the registry of the tenant with this key
abbrev pub registry_of : List KeyedRegistry → Text → Option Registry
registry_of [] key = None
registry_of (k ∷ ks) key = if same_text key k.key then Some k.registry else registry_of ks key

-- with this registry in its place
abbrev pub with_registry : List KeyedRegistry → Text → Registry → List KeyedRegistry
with_registry [] key g = []
with_registry (k ∷ ks) key g = if same_text key k.key then record k { registry = g } ∷ ks else k ∷ with_registry ks key g

-- ---- one call: a step of the registry with this key and of no other; no step where there is none
abbrev pub call_at : Search → List KeyedRegistry → Call → Option Registry → Reply × List KeyedRegistry
call_at search ks c None = (refused unknown_tenant, ks)
call_at search ks c (Some g) = let after = step search g c.1 in (after.0, with_registry ks c.0 after.1)

abbrev pub call_step : Search → List KeyedRegistry → Call → Reply × List KeyedRegistry
call_step search ks c = call_at search ks c (registry_of ks c.0)

-- what may be answered: the step's reply, or to a tenant a refusal for room, which changes nothing
abbrev pub IsCallAnswer : Search → List KeyedRegistry → Call → Reply → List KeyedRegistry → Type 0
IsCallAnswer search ks c r ls =
    ((r ≡ (call_step search ks c).0) × (ls ≡ (call_step search ks c).1))
    ⊎ (IsTrue (is_some (registry_of ks c.0)) × IsForRoom search c.1 r × (ls ≡ ks))

-- ---- calls in turn
abbrev pub call_replies : Search → List KeyedRegistry → List Call → List Reply
call_replies search ks [] = []
call_replies search ks (c ∷ cs) = (call_step search ks c).0 ∷ call_replies search (call_step search ks c).1 cs

-- each with what may be answered
abbrev pub CallCourse : Search → List KeyedRegistry → List Call → List Reply → List KeyedRegistry → Type 0
CallCourse search ks [] [] ls = ls ≡ ks
CallCourse search ks (c ∷ cs) (r ∷ rs) ls =
    (ms : List KeyedRegistry) × IsCallAnswer search ks c r ms × CallCourse search ms cs rs ls
CallCourse search ks _ _ ls = ⊥

-- ---- one tenant's part of them
-- its own requests
abbrev pub own_requests : Text → List Call → List Request
own_requests key [] = []
own_requests key (c ∷ cs) = if same_text key c.0 then c.1 ∷ own_requests key cs else own_requests key cs

-- the replies at the key's places
abbrev pub replies_at : Text → List Call → List Reply → List Reply
replies_at key (c ∷ cs) (r ∷ rs) = if same_text key c.0 then r ∷ replies_at key cs rs else replies_at key cs rs
replies_at key _ _ = []

-- no tenant has the key
abbrev pub AllUnknown : List Reply → Type 0
AllUnknown [] = Unit {0}
AllUnknown (r ∷ rs) = (r ≡ refused unknown_tenant) × AllUnknown rs
