use Rattle.std.proofs.Common.{◌≡◌, ◌∙◌, true, length, ap, sym}
use Rattle.definitions.specs.Values.{same_text}
use Rattle.lemmas.proofs.Texts.{same_text_is, same_text_itself}
use Rattle.keywords.specs.Rows.{row_named, row_of}
use Rattle.keywords.proofs.Likely.{no_length}
use Rattle.keywords.proofs.Names.{no_row_named, row_there}
use Rattle.keywords.proofs.keyword.Keyword.named.Goals as goal
use Rattle.keywords.proofs.keyword.Keyword.named.Goals.{else-likely_name-name-via-then-likely_name-name+else-eq, else-likely_name-name-via-else-likely_name-name}

pub returns-then-name-lt-SHORTEST : goal.returns-then-name-lt-SHORTEST
returns-then-name-lt-SHORTEST c = no_row_named c.args.name.now (no_length c.args.name.now c.then-name-lt-SHORTEST.either)

pub returns-then-eq : goal.returns-then-eq
returns-then-eq c =
    row_there c.likely-keyword.result
    ∙ ap row_named (sym c.name-likely_name.ensures ∙ same_text_is c.name-likely_name.result.now c.args.name.now (sym c.eq.ensures ∙ c.if-eq.true))

pub returns-else-likely_name-name : goal.returns-else-likely_name-name
returns-else-likely_name-name c =
    no_row_named c.args.name.now (λ k e.
    let is : c.name-likely_name.result.now ≡ c.args.name.now =
    c.name-likely_name.ensures ∙ ap (λ k. (row_of k).name) (c.likely-keyword.ensures k e) ∙ sym e in
    elim c.else-likely_name-name.branch [
      | else-likely_name-name-via-then-likely_name-name+else-eq w ↦
          let met : w.eq.result ≡ true = w.eq.ensures ∙ ap (λ t. same_text t c.args.name.now) is ∙ same_text_itself c.args.name.now in
          let unmet = w.if-eq.false in
          cc
      | else-likely_name-name-via-else-likely_name-name w ↦ w.if-likely_name-name.false (ap length is)
    ])
