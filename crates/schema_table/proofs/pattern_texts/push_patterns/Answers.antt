use Rattle.std.proofs.Common.{◌≡◌, ◌++◌, List, map, OnOk, option_map, Bor, codes, subst, sym, ap, ◌∙◌, append_assoc, append-nil}
use Rattle.definitions.specs.Lists.{option_list}
use Rattle.definitions.specs.Values.{Text}
use Rattle.json_doc.specs.Docs.{value}
use Rattle.schema_table.specs.PatternTexts.{names_at}
use Rattle.schema_table.proofs.Lists.{map-push}
use Rattle.schema_table.proofs.Patterned.{patterns_at-parts}
use Rattle.schema_table.proofs.pattern_texts.push_patterns.Goals as goal
use Rattle.schema_table.proofs.pattern_texts.push_patterns.Goals.{in-Some+in_ok-push, in_default}

abbrev texts : List (Bor Text) → List Text
texts = map (λ t. t.now)

pub returns : goal.returns
returns c =
    let v = value c.args.schema.now in
    let before = texts c.args.texts.now.items in
    let found = option_map (λ (t : Bor Text). t.now) c.text_at.result in
    let names = names_at (codes "patternProperties") v in
    let own : texts c.match-text_at.texts.items ≡ before ++ option_list found =
    elim c.match-text_at.branch [
      | in-Some+in_ok-push w ↦
          ap (λ ts. texts ts.items) w.texts-is ∙ map-push (λ (t : Bor Text). t.now) c.args.texts.now.items w.push.new.self.items w.in-Some.text w.in_ok-push.ensures.items
          ∙ ap (λ t. before ++ option_list (option_map (λ (t : Bor Text). t.now) t)) (sym w.in-Some.is)
      | in_default w ↦
          ap (λ ts. texts ts.items) w.texts-is ∙ sym (append-nil before)
          ∙ ap (λ t. before ++ option_list (option_map (λ (t : Bor Text). t.now) t)) (sym w.in_default.is)
    ] in
    subst (λ ts. OnOk c.push_names_at.result (texts c.push_names_at.new.texts.items ≡ ts))
    (ap (λ ts. ts ++ names) own ∙ append_assoc before (option_list found) names ∙ ap (λ ts. before ++ ts) (sym (patterns_at-parts v found c.text_at.ensures)))
    c.push_names_at.ensures
