use Rattle.std.proofs.Common.{◌∙◌, ap, map}
use Rattle.definitions.specs.Applied.{has}
use Rattle.json_doc.specs.NamedMembers.{name_text}
use Rattle.applicators.proofs.Seen.{has-by_name}
use Rattle.applicators.proofs.planning.unevaluated.NamesInOrder.is_among_all.Goals as goal

pub returns-in-Some-clause-has : goal.returns-in-Some-clause-has
returns-in-Some-clause-has c =
    let names = c.args.self.now.names.now in
    let right = rw c.in-Some.is at c.args.self.now.right in
    c.is_in.ensures ∙ right c.as_str.result ∙ has-by_name c.as_str.result.now names ∙ ap (λ t. has t (map name_text names)) c.as_str.ensures

pub returns-clause-has : goal.returns-clause-has
returns-clause-has c =
    let names = c.args.self.now.names.now in
    c.is_in-found.ensures ∙ c.in_ok-all.ensures c.as_str-2.result ∙ has-by_name c.as_str-2.result.now names ∙ ap (λ t. has t (map name_text names)) c.as_str-2.ensures
