-- Which names stand in a schema object, by marks: for a keyword the number of its group in the order of evaluation (those
-- that are not evaluated have one together, that after all), and the last for names that may annotate with their own value.
use Rattle.std.specs.Prelude.{◌≡◌, ℕ, Bool, false, not, ◌==◌, ◌||◌, if◌then◌else◌, codes}
use Rattle.std.specs.List.{list_any}
use Rattle.std.specs.Int.{bit_at}
use Rattle.definitions.specs.Values.{Text, Value, members, same_text}
use Rattle.definitions.specs.Keywords.{is_keyword_of, keywords}
use Rattle.keywords.specs.Groups.{group_number}

-- `contentSchema`, and the names that are no keyword's
abbrev pub may_annotate_itself : Text → Bool
may_annotate_itself name = same_text name (codes "contentSchema") || not (is_keyword_of keywords name)

unfoldable pub mark_of : Text → ℕ
mark_of name = if may_annotate_itself name then 63 else group_number name

abbrev pub has_mark : ℕ → Text × Value → Bool
has_mark i m = mark_of m.0 == i

-- where a bit is 0, no member of the object has that mark
abbrev pub AreMarked : ℕ → Value → Type 0
AreMarked marks v = (i : ℕ) → bit_at marks i ≡ 0 → list_any (has_mark i) (members v) ≡ false
