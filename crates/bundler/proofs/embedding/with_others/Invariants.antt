use Rattle.std.proofs.Common.{◌≡◌, map, take}
use Rattle.definitions.specs.Bundles.{members_with_documents}
use Rattle.json_doc.specs.Docs.{members_value}
use Rattle.bundler.specs.Constituents.{constituent_view}
use Rattle.bundler.proofs.embedding.with_others.Given as goal

abbrev pub invariant-loop-other : goal.invariant-loop-other
invariant-loop-other l = members_value l.members ≡ members_with_documents (map constituent_view (take l.other-index l.others)) (members_value l.initial.members)
