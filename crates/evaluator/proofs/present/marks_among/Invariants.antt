use Rattle.std.proofs.Common.{◌≡◌, ℕ, false}
use Rattle.std.specs.List.{list_any}
use Rattle.std.specs.Int.{bit_at}
use Rattle.json_doc.specs.NamedMembers.{named_left}
use Rattle.json_doc.specs.Members.{members_left}
use Rattle.evaluator.specs.Presents.{has_mark}
use Rattle.evaluator.proofs.present.marks_among.Given as goal

-- a mark that no member has so far, and none that is left, none has
abbrev pub invariant-loop-name : goal.invariant-loop-name
invariant-loop-name l =
    (i : ℕ) → bit_at l.marks i ≡ 0 → list_any (has_mark i) (named_left l.name-iterator) ≡ false → list_any (has_mark i) (members_left l.fn.members) ≡ false
