use Rattle.std.proofs.Common.{◌++◌, ap, sym, ◌∙◌, string_bytes}
use Rattle.std.proofs.lemmas.List.{map-id}
use Rattle.std.specs.List.{flat_map}
use Rattle.std.proofs.lemmas.Iterator.{YieldsList-from_chars}
use Rattle.std.proofs.lemmas.Iterator.Consumers.{YieldsList-end}
use Rattle.plain_reports.specs.Escapes.{message_escape}
use Rattle.plain_reports.proofs.github.push_message.Goals as goal

pub returns : goal.returns
returns c =
    let t = YieldsList-end (YieldsList-from_chars c.args.text.now c.utf8.text cc) c.loop-character.yielded _ c.loop-character.yielded_by _ _ c.in-None.is c.next.ensures.steps in
    c.loop-character.invariant ∙ ap (λ ys. string_bytes c.args.out.now ++ flat_map message_escape ys) (sym (map-id c.loop-character.yielded) ∙ t.0)
