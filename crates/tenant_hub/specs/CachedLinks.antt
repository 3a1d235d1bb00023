-- The links of a registry that are kept.
use Rattle.std.specs.Prelude.{◌≡◌, List, None, Ok, Contains, String, string_bytes}
use Rattle.std.specs.Global.{Global}
use Rattle.std.proofs.Props.{props}
use Rattle.definitions.specs.Reach.{reach}
use Rattle.definitions.specs.Resolution.{base_form}
use Rattle.definitions.specs.Schemas.{Document}
use Rattle.definitions.specs.Values.{Text}
use Rattle.linker.specs.LinkFaults.{link_fault}
use Rattle.linker.specs.LinkedDocuments.{linked_uri, linked_documents}
use Rattle.linker.specs.ValueSets.{value_set}
use Rattle.linker.specs.declared.linked.Linked.{Linked}
use Rattle.tenant_hub.specs.declared.links.Links.{Links}

-- what is linked is what the URI reaches among these documents, where all references name schemas
abbrev pub IsLinkOf : List Document → Text → Linked → Type 0
IsLinkOf ds uri l = (linked_uri l ≡ uri) × ((linked_documents l ≡ reach ds uri) × (link_fault (reach ds uri) ≡ None))

-- the URI is a base form, too
abbrev pub IsLinkOfBase : List Document → Text → Linked → Type 0
IsLinkOfBase ds base l = IsLinkOf ds base l × (base_form base ≡ Ok base)

-- each link that is kept is that of its base form
unfoldable pub AreLinksOf : List Document → Links → Type 0
AreLinksOf ds links = (e : String Global × Linked) → Contains links.entries.entries e → IsLinkOfBase ds (string_bytes e.0) e.1

pub AreLinksOf-prop : (ds : List Document) (links : Links) → IsProp (AreLinksOf ds links)
unfolding AreLinksOf
AreLinksOf-prop ds links = hlevel (props, value_set)
