-- What stays as it is where several documents are put together, and which resource URIs it has.
use Rattle.std.specs.Prelude.{◌≡◌, Bool, not, List, Option, Some, None, find, flat_map, is_some}
use Rattle.std.specs.Borrow.{Bor}
use Rattle.std.specs.BTreeSet.{BTreeSet, contains}
use Rattle.std.specs.List.{list_any}
use Rattle.definitions.specs.Documents.{document_of}
use Rattle.definitions.specs.Lists.{option_list}
use Rattle.definitions.specs.Reach.{holds_resource}
use Rattle.definitions.specs.Registries.{Registry}
use Rattle.definitions.specs.Schemas.{Document}
use Rattle.definitions.specs.Values.{Text, same_text}
use Rattle.lemmas.proofs.Texts.{text_order}

-- the set has these texts
abbrev pub IsSetOf : BTreeSet (Bor Text) → List Text → Type 0
IsSetOf set texts = (t : Bor Text) → contains text_order set t ≡ list_any (same_text t.now) texts

-- of the tenant's document that holds a URI and of the library's: whether one stays where documents with these canonical
-- URIs are put
abbrev pub stays : List Text → Option Document → Option Document → Bool
stays replaced (Some d) other = not (list_any (same_text d.canonical) replaced)
stays replaced None other = is_some other

-- a document that stays has the resource
abbrev pub is_held_beside : Registry → List Text → Text → Bool
is_held_beside g replaced u = stays replaced (find (holds_resource u) g.documents) (find (holds_resource u) g.library)

-- those that these take the place of
abbrev pub replaced_by : List Document → List Document → List Document
replaced_by es ds = flat_map (λ e. option_list (document_of ds e.canonical)) es
