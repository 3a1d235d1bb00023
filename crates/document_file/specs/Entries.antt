-- A document's row as an entry of the table that sqlite3 reads.
use Rattle.std.specs.Prelude.{if◌then◌else◌, Bool, Contains, List, [], filter, not, true, ◌∷◌, ◌≡◌}
use Rattle.std.specs.Ordering.{is_eq}
use Rattle.definitions.specs.Values.{same_text, Text}
use Rattle.stored_rows.specs.Rows.{Row}
use Rattle.sqlite_value.specs.declared.value.Value.{Value}
use Rattle.sqlite_value.specs.declared.value.Value.TheVariants as value
use Rattle.sqlite_value.specs.Order.{Row as Entry}
use Rattle.sqlite_value.specs.Keys.{plain, prefix_cmp}
use Rattle.sqlite_trees.specs.Tree.{insert_entry}

-- NULL for a base that is the URI
abbrev pub base_value : Text → Text → Value
base_value uri base = if same_text base uri then value.Null else value.Text base

-- its columns are the tenant, the URI, the base and the text
abbrev pub entry_of : Row → Entry
entry_of r = value.Text r.tenant ∷ value.Text r.uri ∷ base_value r.uri r.base ∷ value.Text r.text ∷ []

-- its first two columns
abbrev pub key_of : Text → Text → Entry
key_of tenant uri = value.Text tenant ∷ value.Text uri ∷ []

abbrev pub has_key : Entry → Entry → Bool
has_key key entry = is_eq (prefix_cmp plain entry key)

-- one of the entries at most has this key
abbrev pub HaveOneAt : Entry → List Entry → Type 0
HaveOneAt key entries =
    (a b : Entry) → Contains entries a → Contains entries b → has_key key a ≡ true → has_key key b ≡ true → a ≡ b

-- the entries but for those with this key
abbrev pub without_key : Entry → List Entry → List Entry
without_key key = filter (λ entry. not (has_key key entry))

-- .. and this one at its place
abbrev pub with_entry : Entry → Entry → List Entry → List Entry
with_entry key entry entries = insert_entry plain entry (without_key key entries)
