use Rattle.std.proofs.Common.{◌≡◌, ◌++◌, List, map, OnOk, Some, None, Bor, subst, sym, ap, ◌∙◌, append-nil}
use Rattle.definitions.specs.Values.{Text}
use Rattle.json_doc.specs.Docs.{value, members_value}
use Rattle.schema_table.proofs.Patterned.{names_at-members}
use Rattle.schema_table.proofs.pattern_texts.push_names_at.Goals as goal

abbrev texts : List (Bor Text) → List Text
texts = map (λ t. t.now)

pub returns-in-Some : goal.returns-in-Some
returns-in-Some c =
    subst (λ ts. OnOk c.push_names.result (texts c.push_names.new.texts.items ≡ texts c.args.texts.now.items ++ ts))
    (sym (names_at-members c.args.keyword.now (value c.args.schema.now) (Some (members_value c.in-Some.members.now)) c.in-Some.ensures))
    c.push_names.ensures

pub returns-in-None : goal.returns-in-None
returns-in-None c =
    sym (append-nil (texts c.args.texts.now.items))
    ∙ ap (λ ts. texts c.args.texts.now.items ++ ts) (sym (names_at-members c.args.keyword.now (value c.args.schema.now) None c.in-None.ensures))
