use Rattle.std.proofs.Common.{ap, sym, ◌∙◌}
use Rattle.definitions.specs.Bundles.{with_member}
use Rattle.json_doc.specs.Docs.{value}
use Rattle.bundler.proofs.Docs.{dict_with}
use Rattle.bundler.proofs.embedding.with_member.Goals as goal

pub returns-in_ok-with_entry-in-Dict-clause-ok : goal.returns-in_ok-with_entry-in-Dict-clause-ok
returns-in_ok-with_entry-in-Dict-clause-ok c =
    dict_with c.args.name.now (value c.args.member) c.in-Dict.members c.in_ok-with_entry-in-Dict.field-0 c.in_ok-with_entry-in-Dict.ensures.ok
    ∙ ap (λ d. with_member c.args.name.now (value c.args.member) (value d)) (sym c.in-Dict.is)
