-- Members with their names as they stand there.
use Rattle.std.specs.Prelude.{◌≡◌, List, Option}
use Rattle.std.specs.Borrow.{Bor}
use Rattle.std.specs.Cmp.Lexicographic.{slice_cmp}
use Rattle.std.specs.Ordering.{nat_cmp}
use Rattle.std.specs.declared.cmp.Ordering.TheVariants.{Less}
use Rattle.definitions.specs.Values.{Text, Value, entry}
use Rattle.json_doc.specs.Docs.{value}
use Rattle.json_doc.specs.Members.{AreAbove, HasNamesInOrder, members_left}
use Rattle.json_doc.specs.SmallTexts.{text_view}
use Rattle.json_doc.specs.declared.doc.Doc.{Doc}
use Rattle.json_doc.specs.declared.named_members.Name.{Name}
use Rattle.json_doc.specs.declared.named_members.NamedMembers.{NamedMembers}

abbrev pub name_text : Name → Text
name_text n = text_view n.stored.now

-- the members that the iterator has left
abbrev pub named_left : NamedMembers → List (Text × Value)
named_left n = members_left n.members

-- the member that an item shows
abbrev pub named_view : Name × Bor Doc → Text × Value
named_view item = (name_text item.0, value item.1.now)

-- the one of this name is taken from members in order, if it is there, and those of the names above it are left
pub record IsTaken (name : Text) (before after : List (Text × Value)) (o : Option Value) : Type 0 where
  pub found : o ≡ entry name before
  pub later : (q : Text) → slice_cmp nat_cmp name q ≡ Less → entry q after ≡ entry q before
  pub passed : AreAbove name after
  pub ordered : HasNamesInOrder after
