use Rattle.std.proofs.Common.{◌<◌, get_or, length, sym, ap, subst, ◌∙◌}
use Rattle.std.proofs.lemmas.Bool.{ltb-true}
use Rattle.keywords.specs.Rows.{row_of}
use Rattle.json_doc.proofs.Entries.{found_at}
use Rattle.json_doc.proofs.Views.{Entry, members_value-out}
use Rattle.json_doc.proofs.members.Members.keyword_value_near.Goals as goal

pub returns-in-Some : goal.returns-in-Some
returns-in-Some c =
    let found : Entry = c.in-Some.field-0.now in
    let position = c.args.position in
    let at = c.in-Some.ensures.lookup in
    let all = c.as_slice.ensures.all in
    rw members_value-out
    (sym (found_at (row_of c.args.keyword).name c.args.self.now.entries position found c.as_slice.ensures.ordered (subst (λ es. position < length es) all (ltb-true _ _ (sym at.0)))
    (at.1 ∙ ap (λ es. get_or es position found) all) (sym c.is.ensures ∙ c.if-is.true)))
