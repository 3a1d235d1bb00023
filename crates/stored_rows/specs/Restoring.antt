-- Registries that are made of rows again.
use Rattle.std.specs.Prelude.{List, Ok, Some, false, map, ◌∷◌, ◌≡◌, []}
use Rattle.definitions.specs.Lists.{has_repeat}
use Rattle.definitions.specs.Registries.{Registry, put_into, stored}
use Rattle.definitions.specs.Resolution.{base_form}
use Rattle.definitions.specs.Schemas.{document_from}
use Rattle.definitions.specs.Searches.{Search}
use Rattle.definitions.specs.Services.{KeyedRegistry, registry_of, with_registry}
use Rattle.definitions.specs.Texts.{parsed_value}
use Rattle.definitions.specs.Values.{Text, Value, same_text}
use Rattle.stored_rows.specs.Rows.{Row, digest, row_of}

-- without documents of its own; its key, its quotas and the library stay
abbrev pub without_documents : KeyedRegistry → KeyedRegistry
without_documents k = record k { registry = record k.registry { documents = [] } }

abbrev pub emptied : List KeyedRegistry → List KeyedRegistry
emptied = map without_documents

-- no two keys have one digest
abbrev pub HaveDistinctDigests : List KeyedRegistry → Type 0
HaveDistinctDigests ks = has_repeat same_text (map (λ k. digest k.key) ks) ≡ false

-- ---- rows that are put back, each by its tenant's digest
-- a put of what the row's texts say, which has no limit of a body's length: its document wasn't there, is stored, and has
-- the very row
pub record PutsBack (search : Search) (g : Registry) (key : Text) (r : Row) (h : Registry) : Type 0 where
  pub base : Text
  pub value : Value
  pub has_base : base_form r.base ≡ Ok base
  pub has_value : parsed_value r.text ≡ Ok value
  pub puts : put_into search g (document_from base value) ≡ (stored r.uri false, h)
  pub has_row : row_of key (document_from base value) ≡ r

-- one after the other
abbrev pub Restores : Search → List KeyedRegistry → List Row → List KeyedRegistry → Type 0
Restores search ks [] ls = ls ≡ ks
Restores search ks (r ∷ rs) ls =
    (key : Text) × (g : Registry) × (h : Registry) × (digest key ≡ r.tenant) × (registry_of ks key ≡ Some g)
    × PutsBack search g key r h × Restores search (with_registry ks key h) rs ls
