use Rattle.std.proofs.Common.{ap, subst, sym, ◌∙◌}
use Rattle.definitions.specs.Uris.{recompose}
use Rattle.uri_ref.specs.Soundness.{AreSound}
use Rattle.uri_ref.proofs.Splits.{split_from}
use Rattle.uri_ref.proofs.Recomposed.{recomposes}
use Rattle.uri_ref.proofs.Sound.{split_sound}
use Rattle.uri_ref.proofs.splitting.split.Goals as goal

pub invariant_of-result : goal.invariant_of-result
invariant_of-result c =
    subst AreSound
    (sym (split_from c.args.text.now c.cut_at.result.0.now c.cut_at-2.result.0.now c.scheme_and_rest.result.1.now _ _ _ _ _
    c.cut_at.ensures.before c.cut_at.ensures.after c.cut_at-2.ensures.before c.cut_at-2.ensures.after
    c.scheme_and_rest.ensures.scheme c.scheme_and_rest.ensures.rest c.authority_and_path.ensures.authority c.authority_and_path.ensures.path))
    (split_sound c.args.text.now)

pub returns : goal.returns
returns c =
    let parts =
    split_from c.args.text.now c.cut_at.result.0.now c.cut_at-2.result.0.now c.scheme_and_rest.result.1.now _ _ _ _ _
    c.cut_at.ensures.before c.cut_at.ensures.after c.cut_at-2.ensures.before c.cut_at-2.ensures.after
    c.scheme_and_rest.ensures.scheme c.scheme_and_rest.ensures.rest c.authority_and_path.ensures.authority c.authority_and_path.ensures.path
    in
    record { parts = parts; recomposes = ap recompose parts ∙ recomposes c.args.text.now }
