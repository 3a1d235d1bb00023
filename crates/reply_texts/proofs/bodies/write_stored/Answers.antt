use Rattle.std.proofs.Common.{◌≡◌, [], ◌∷◌, ◌++◌}
use Rattle.std.specs.Prelude.{codes}
use Rattle.std.proofs.lemmas.Result.{on_ok_weaker}
use Rattle.json.specs.Token as json
use Rattle.lemmas.proofs.Appended.{appended}
use Rattle.reply_texts.proofs.bodies.write_stored.Goals as goal

pub returns-clause-ok : goal.returns-clause-ok
returns-clause-ok c =
    let old = c.args.out.now.tokens in
    let opened = c.begin_object.new.self.tokens in
    let flagged = c.write_flag.new.out.tokens in
    let named = c.write_text.new.out.tokens in
    let flag = json.key (codes "replaced") ∷ json.boolean c.args.replaced ∷ [] in
    let uri = json.key c.args.name.now ∷ json.string c.args.uri.now ∷ [] in
    let at_flagged : flagged ≡ old ++ (json.begin_object ∷ flag) =
    appended old opened flagged (json.begin_object ∷ []) flag c.in_ok-begin_object.ensures.ok c.in_ok-write_flag.ensures.ok in
    let at_named : named ≡ old ++ ((json.begin_object ∷ flag) ++ uri) =
    appended old flagged named (json.begin_object ∷ flag) uri at_flagged c.in_ok-write_text.ensures.ok in
    on_ok_weaker c.end_object.result
    (λ e. appended old named _ ((json.begin_object ∷ flag) ++ uri) (json.end_object ∷ []) at_named e)
    c.end_object.ensures.ok
