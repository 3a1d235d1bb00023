-- Lists of requests: one tenant's replies, and what a run may answer where there is no room.
use Rattle.std.specs.Prelude.{◌≡◌, ◌⊎◌, ℕ, zero, suc, List, [], ◌∷◌, Bool, ◌&&◌, false, Result, Ok, Err, IsTrue, is_ok}
use Rattle.definitions.specs.Values.{Text}
use Rattle.definitions.specs.Faults.{Fault, bad_pattern, no_room}
use Rattle.definitions.specs.Resolution.{base_form}
use Rattle.definitions.specs.Searches.{Search, builds}
use Rattle.definitions.specs.Registries.{Request, put, batch, validate, Reply, refused, refused_at, Registry, documents_seen, body_value}
use Rattle.definitions.specs.Batches.{Entry, batch_entries, entry_document}
use Rattle.definitions.specs.Steps.{step}
use Rattle.definitions.specs.Alike.{Agree}

abbrev pub replies : Search → Registry → List Request → List Reply
replies search g [] = []
replies search g (q ∷ qs) = (step search g q).0 ∷ replies search (step search g q).1 qs

-- ---- refused for room: want of memory, or a pattern that the grammar reads and that couldn't be built
-- a Put of a body that has patterns, with no fault before they are built
abbrev pub BuildsPatterns : Search → Request → Type 0
BuildsPatterns search (put uri body) = IsTrue (builds search (base_form uri) (body_value body))
BuildsPatterns search _ = ⊥

-- this entry has patterns, and neither it nor one before it has a fault
abbrev pub builds_at : Search → ℕ → List Entry → Bool
builds_at search n [] = false
builds_at search zero (e ∷ es) = builds search (base_form e.uri) (Ok e.schema)
builds_at search (suc n) (e ∷ es) = is_ok (entry_document search e) && builds_at search n es

abbrev pub entries_build : Search → ℕ → Result (List Entry) Fault → Bool
entries_build search n (Ok es) = builds_at search n es
entries_build search n (Err f) = false

-- a batch that builds the patterns of this entry
abbrev pub BuildsPatternsAt : Search → Request → ℕ → Type 0
BuildsPatternsAt search (batch bytes) n = IsTrue (entries_build search n (batch_entries bytes))
BuildsPatternsAt search _ n = ⊥

-- of one entry's patterns
abbrev pub IsForAnEntry : Search → Request → Reply → Type 0
IsForAnEntry search q r = (n : ℕ) × (r ≡ refused_at n bad_pattern) × BuildsPatternsAt search q n

abbrev pub IsForRoom : Search → Request → Reply → Type 0
IsForRoom search q r = (r ≡ refused no_room) ⊎ ((r ≡ refused bad_pattern) × BuildsPatterns search q) ⊎ IsForAnEntry search q r

-- each answer is the step's, or a refusal for room that changes nothing
abbrev pub Course : Search → Registry → List Request → List Reply → Registry → Type 0
Course search g [] [] h = h ≡ g
Course search g (q ∷ qs) (r ∷ rs) h =
    ((r ≡ (step search g q).0) × Course search (step search g q).1 qs rs h) ⊎ (IsForRoom search q r × Course search g qs rs h)
Course search g _ _ h = ⊥

-- one answer of a course
abbrev pub IsAnswer : Search → Registry → Request → Reply → Registry → Type 0
IsAnswer search g q r h = ((r ≡ (step search g q).0) × (h ≡ (step search g q).1)) ⊎ (IsForRoom search q r × (h ≡ g))

-- ---- what decides an answer
-- registries that agree at the base form of a URI validate by it alike
abbrev pub AgreeAnswerAlike : Search → Registry → Registry → Text → Text → Type 0
AgreeAnswerAlike search g h uri body =
    ((b : Text) → base_form uri ≡ Ok b → Agree (documents_seen g) (documents_seen h) b) →
    (step search g (validate uri body)).0 ≡ (step search h (validate uri body)).0
