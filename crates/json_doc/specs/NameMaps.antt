-- Values by name as a list of entries, and where a name stands in it.
use Rattle.std.specs.Prelude.{◌≡◌, ℕ, ◌<◌, ◌≤◌, false, List, length, take, drop, Option, option_map, slice_index_or}
use Rattle.std.specs.Borrow.{Bor}
use Rattle.std.specs.Coded.{Coded, coded×, coded_list}
use Rattle.std.specs.Cmp.Lexicographic.{slice_cmp}
use Rattle.std.specs.List.{AllByRecursion}
use Rattle.std.specs.Map.{lookup}
use Rattle.std.specs.BTreeMap.{is_at, insert_entry}
use Rattle.std.specs.Ordering.{is_gt, nat_cmp}
use Rattle.std.specs.declared.cmp.Ordering.{Ordering}
use Rattle.std.specs.declared.cmp.Ordering.TheVariants.{Less, Equal, Greater}
use Rattle.json_doc.specs.contracts.small_text.SmallText as small_text
use Rattle.json_doc.specs.declared.small_text.SmallText.{SmallText}
use Rattle.json_doc.specs.SmallTexts.{text_view, text_cmp}
use Rattle.definitions.specs.Values.{Text}

abbrev pub name_map_code : {T : Type 0} → Coded T → Coded (List (SmallText × T))
name_map_code t = coded_list (coded× small_text.the_row.coded t)

abbrev pub order_to : {T : Type 0} → Text → SmallText × T → Ordering
order_to name e = slice_cmp nat_cmp name (text_view e.0)

-- the name is above all of these
abbrev pub IsAbove : {T : Type 0} → Text → List (SmallText × T) → Type 0
IsAbove name es = AllByRecursion (λ e. order_to name e ≡ Greater) es

-- the name is below all of these
abbrev pub IsBelow : {T : Type 0} → Text → List (SmallText × T) → Type 0
IsBelow name es = AllByRecursion (λ e. order_to name e ≡ Less) es

-- the name is above none of these
abbrev pub IsAboveNone : {T : Type 0} → Text → List (SmallText × T) → Type 0
IsAboveNone name es = AllByRecursion (λ e. is_gt (order_to name e) ≡ false) es

-- the first entry with this name stands at this index
pub record IsPositionOf {T : Type 0} (name : Text) (es : List (SmallText × T)) (position : ℕ) : Type 0 where
  pub within : position < length es
  pub above : IsAbove name (take position es)
  pub same : (d : SmallText × T) → order_to name (slice_index_or es position d) ≡ Equal

-- an entry with this name would stand at this index
pub record IsGapFor {T : Type 0} (name : Text) (es : List (SmallText × T)) (gap : ℕ) : Type 0 where
  pub within : gap ≤ length es
  pub above : IsAbove name (take gap es)
  pub below : IsBelow name (drop gap es)

-- the value stands at the name, in an entry of its own or in that of the name
pub record IsPut {T : Type 0} (name : Text) (value : T) (before after : List (SmallText × T)) : Type 0 where
  pub key : SmallText
  pub is : text_view key ≡ name
  pub put : after ≡ insert_entry text_cmp before key value

-- the name and the value of the entry that an item shows
abbrev pub entry_view : {T : Type 0} → Bor (SmallText × T) → Text × T
entry_view item = (text_view item.now.0, item.now.1)

-- the name with its value, if it is there
abbrev pub entry_named : {T : Type 0} → Text → List (SmallText × T) → Option (Text × T)
entry_named name es = option_map (λ v. (name, v)) (lookup (is_at (λ k. slice_cmp nat_cmp name (text_view k))) es)
