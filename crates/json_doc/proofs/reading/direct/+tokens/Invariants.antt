use Rattle.std.proofs.Common.{◌≡◌, ℕ, ◌+◌, ◌*◌, ◌≤◌, length}
use Rattle.json.specs.Json.{items, members, value, parse_map}
use Rattle.serde_json.specs.Data as json
use Rattle.serde_json.specs.Read.{of_items, of_members, converted}
use Rattle.definitions.specs.Texts.{elements_of}
use Rattle.json_doc.specs.Gathers.{gathered_view}
use Rattle.json_doc.specs.Reads.{elements_at}
use Rattle.json_doc.proofs.TokenReads.{elements_before, AreRead}
use Rattle.json_doc.proofs.reading.direct.+tokens.Given as goal

abbrev pub decreases-doc_from : goal.decreases-doc_from
decreases-doc_from l = 2 * l.depth

abbrev pub decreases-list_from : goal.decreases-list_from
decreases-list_from l = 2 * l.depth + 1

abbrev pub decreases-dict_from : goal.decreases-dict_from
decreases-dict_from l = 2 * l.depth + 1

abbrev pub invariant-list_from-items : goal.invariant-list_from-items
invariant-list_from-items l =
    (n : ℕ) × (length l.reader ≤ n)
    × (elements_at l.depth l.initial.reader ≡ parse_map (elements_before l.items.items) (converted elements_of (converted of_items (items (value l.depth) n l.reader))))
    × (length l.reader ≤ length l.initial.reader)

abbrev pub decreases-list_from-items : goal.decreases-list_from-items
decreases-list_from-items l = length l.reader

abbrev pub invariant-dict_from-members : goal.invariant-dict_from-members
invariant-dict_from-members l =
    (n : ℕ) × (old : json.Members) × (length l.reader ≤ n)
    × (converted (λ ms. of_members ms json.no_members) (members (value l.depth) (length l.initial.reader) l.initial.reader) ≡ converted (λ ms. of_members ms old) (members (value l.depth) n l.reader))
    × AreRead old (gathered_view l.gathered)
    × (length l.reader ≤ length l.initial.reader)

abbrev pub decreases-dict_from-members : goal.decreases-dict_from-members
decreases-dict_from-members l = length l.reader
