use Rattle.std.proofs.Common.{sym, ap, ◌∙◌, cond}
use Rattle.std.specs.Prelude.{Some, None}
use Rattle.std.specs.Str.{is_utf8}
use Rattle.request_heads.proofs.TargetRoutes.{no_escapes}
use Rattle.request_heads.proofs.targets.unescaped.Goals as goal

pub returns-in-None-clause-ok : goal.returns-in-None-clause-ok
returns-in-None-clause-ok c =
    c.utf8_text.ensures ∙ sym (ap (λ t. cond (is_utf8 t) (Some t) None) (no_escapes c.args.text.now c.in-None.ensures))
