use Rattle.std.proofs.Common.{◌≡◌, ◌++◌, map, Bor}
use Rattle.definitions.specs.Values.{Text}
use Rattle.json_doc.specs.Docs.{members_value}
use Rattle.json_doc.specs.Members.{members_left}
use Rattle.schema_table.proofs.pattern_texts.push_names.Given as goal

abbrev pub invariant-loop-name : goal.invariant-loop-name
invariant-loop-name l =
    map (λ (t : Bor Text). t.now) l.fn.texts.items ++ map (λ m. m.0) (members_value l.members)
    ≡ map (λ (t : Bor Text). t.now) l.texts.items ++ map (λ m. m.0) (members_left l.name-iterator)
