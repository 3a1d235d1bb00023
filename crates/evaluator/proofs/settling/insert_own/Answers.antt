use Rattle.std.proofs.Common.{◌∷◌, ◌++◌, ◌∙◌, true, ap, sym}
use Rattle.std.specs.Prelude.{option_map}
use Rattle.definitions.specs.Values.{Text}
use Rattle.basic_output.specs.Parts.{text_of_unit}
use Rattle.basic_output.specs.Pieces.{unit_text}
use Rattle.basic_output.specs.Sayings.{says_value}
use Rattle.basic_output.specs.Units.{unit_texts}
use Rattle.keyword_plans.specs.ObjectApplications.{linked_rules}
use Rattle.evaluation_context.specs.Frames.{context_view}
use Rattle.keywords.specs.Rows.{row_of}
use Rattle.evaluator.specs.Rounds.{use_there, linked_outcome}
use Rattle.evaluation_log.proofs.LogLaws.{inserted_list}
use Rattle.evaluator.proofs.SettlingLaws.{own_none, own_some, unit_under}
use Rattle.evaluator.proofs.settling.insert_own.Goals as goal

pub returns-in-None-clause-noted : goal.returns-in-None-clause-noted
returns-in-None-clause-noted c l left a names indexes v older more inst count under m e own_names own_indexes =
    let told = c.annotate.ensures a (linked_rules l) (linked_outcome l left) names indexes v inst count own_names own_indexes in
    e ∙ ap (λ ts. older ++ ts) (own_none a (use_there l left a c.args.keyword names indexes v) more (sym (ap (option_map says_value) c.in-None.is) ∙ told))

pub returns-in_ok-insert-in-Some-clause-noted : goal.returns-in_ok-insert-in-Some-clause-noted
returns-in_ok-insert-in-Some-clause-noted c l left a names indexes v older more inst count under m e own_names own_indexes =
    let told = c.annotate.ensures a (linked_rules l) (linked_outcome l left) names indexes v inst count own_names own_indexes in
    let says = c.in-Some.says in
    c.in_ok-insert-in-Some.ensures.ok
    ∙ inserted_list c.args.mark older more (unit_texts c.args.annotations.now) (text_of_unit true c.location.result (says_value says)) m e
    ∙ ap (λ ts. older ++ ts)
    (ap (λ (unit : Text). unit ∷ more)
    (c.location.ensures true (says_value says)
    ∙ ap (unit_text true) (unit_under (context_view c.args.context.now) (context_view c.write_locations.new.self) (row_of c.args.keyword).name a (says_value says) c.write_locations.ensures.same under))
    ∙ own_some a (use_there l left a c.args.keyword names indexes v) (says_value says) more (sym (ap (option_map says_value) c.in-Some.is) ∙ told))
