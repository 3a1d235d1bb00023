use Rattle.std.proofs.Common.{List, String, Global, string_bytes, ap, sym, ◌∙◌}
use Rattle.std.specs.List.{list_any}
use Rattle.definitions.specs.Values.{same_text}
use Rattle.lemmas.proofs.Lists.{list_any-map}
use Rattle.stored_documents.proofs.resources.Resources.contains.Goals as goal

pub returns-then-len-le-FEW : goal.returns-then-len-le-FEW
returns-then-len-le-FEW c =
    let own = same_text c.args.uri.now in
    c.is_among.ensures
    ∙ ap (λ (us : List (String Global)). list_any (λ u. own (string_bytes u)) us) c.deref.ensures.value
    ∙ sym (list_any-map own string_bytes c.self.inside.uris.items)
    ∙ ap (list_any own) c.self.view_is
