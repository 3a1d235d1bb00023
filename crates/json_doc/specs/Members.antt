-- Members as a list of names and values, and what an iterator over them has left.
use Rattle.std.specs.Prelude.{◌≡◌, Bool, true, false, List, [], ◌∷◌, map}
use Rattle.std.specs.Borrow.{Bor}
use Rattle.std.specs.Cmp.Lexicographic.{slice_cmp}
use Rattle.std.specs.List.{AllByRecursion}
use Rattle.std.specs.List.Sorted.{IsStrictlySortedBy}
use Rattle.std.specs.Ordering.{is_lt, nat_cmp, match_ordering}
use Rattle.std.specs.declared.cmp.Ordering.TheVariants.{Less}
use Rattle.std.specs.Slice.Iter.{iter_rest}
use Rattle.std.specs.Str.{is_utf8}
use Rattle.definitions.specs.Values.{Text, Value}
use Rattle.json_doc.specs.Docs.{value}
use Rattle.json_doc.specs.declared.doc.Doc.{Doc}
use Rattle.json_doc.specs.declared.members.MembersIter.{MembersIter}
use Rattle.json_doc.specs.declared.small_text.SmallText.{SmallText}
use Rattle.json_doc.specs.SmallTexts.{text_view}

-- the members, with the value at this name: it takes the place of the one there, or goes to its place in byte order
abbrev pub members_with : Text → Value → List (Text × Value) → List (Text × Value)
members_with name v [] = (name, v) ∷ []
members_with name v (m ∷ ms) = match_ordering (slice_cmp nat_cmp name m.0) ((name, v) ∷ m ∷ ms) ((m.0, v) ∷ ms) (m ∷ members_with name v ms)

-- each name once, in byte order
abbrev pub HasNamesInOrder : List (Text × Value) → Type 0
HasNamesInOrder ms = IsStrictlySortedBy (slice_cmp nat_cmp) (map (λ m. m.0) ms)

-- each name in UTF-8
abbrev pub HasTextsAsNames : List (Text × Value) → Type 0
HasTextsAsNames ms = AllByRecursion (λ m. is_utf8 m.0 ≡ true) ms

-- the name is below the other, in byte order
abbrev pub is_below : Text → Text → Bool
is_below name other = is_lt (slice_cmp nat_cmp name other)

-- each name is below this one
abbrev pub AreBelow : Text → List (Text × Value) → Type 0
AreBelow name ms = AllByRecursion (λ m. is_below m.0 name ≡ true) ms

-- no name is below this one
abbrev pub AreNotBelow : Text → List (Text × Value) → Type 0
AreNotBelow name ms = AllByRecursion (λ m. is_below m.0 name ≡ false) ms

-- each name is above this one
abbrev pub AreAbove : Text → List (Text × Value) → Type 0
AreAbove name ms = AllByRecursion (λ n. slice_cmp nat_cmp name n ≡ Less) (map (λ m. m.0) ms)

-- the name and the value of an entry of the map
abbrev pub member_value : SmallText × Doc → Text × Value
member_value e = (text_view e.0, value e.1)

-- the members that the iterator has left
unfoldable pub members_left : MembersIter → List (Text × Value)
members_left i = map member_value (iter_rest i.entries)

-- the member that an item shows
abbrev pub member_view : Bor Text × Bor Doc → Text × Value
member_view item = (item.0.now, value item.1.now)
