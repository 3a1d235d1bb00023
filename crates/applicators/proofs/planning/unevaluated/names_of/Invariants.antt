use Rattle.std.proofs.Common.{◌≡◌, ◌||◌, drop, Bor}
use Rattle.std.specs.BTreeSet.{contains}
use Rattle.std.specs.List.{list_any}
use Rattle.definitions.specs.Values.{Text, same_text}
use Rattle.json_doc.specs.NamedMembers.{name_text}
use Rattle.lemmas.proofs.Texts.{text_order}
use Rattle.applicators.proofs.planning.unevaluated.names_of.Given as goal

-- a name is in the set, or among those that are left
abbrev pub invariant-loop-name : goal.invariant-loop-name
invariant-loop-name l =
    (q : Bor Text) → (contains text_order l.seen q || list_any (λ n. same_text q.now (name_text n)) (drop l.name-index l.names)) ≡ list_any (λ n. same_text q.now (name_text n)) l.names
