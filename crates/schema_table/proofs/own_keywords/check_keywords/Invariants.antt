use Rattle.std.proofs.Common.{◌≡◌, codes}
use Rattle.definitions.specs.Values.{object, text_at, to_members}
use Rattle.json_doc.specs.Docs.{members_view}
use Rattle.json_doc.specs.Members.{members_left}
use Rattle.schema_table.specs.Missteps.{own_missteps}
use Rattle.schema_table.proofs.Identified.{IsFound}
use Rattle.schema_table.proofs.own_keywords.check_keywords.Given as goal

abbrev pub invariant-loop-name : goal.invariant-loop-name
invariant-loop-name l =
    record {
      left : own_missteps l.base l.at_root (members_view l.members) ≡ own_missteps l.base l.at_root (to_members (members_left l.name-iterator));
      found : IsFound l.base (text_at (codes "$id") (object (members_view l.members))) l.opened (text_at (codes "$id") (object (to_members (members_left l.name-iterator))));
    }
