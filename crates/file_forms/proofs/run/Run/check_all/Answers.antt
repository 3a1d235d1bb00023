use Rattle.std.proofs.Common.{◌∙◌, refl}
use Rattle.std.proofs.lemmas.List.{take_all}
use Rattle.file_forms.specs.Subjects.{OfArguments}
use Rattle.file_forms.proofs.Going.{along, argument_more, go_on, names, stays}
use Rattle.file_forms.proofs.run.Run.check_all.Goals as goal

pub loop-path-init : goal.loop-path-init
loop-path-init g c = stays _ _ (refl, refl)

pub loop-path-preserved : goal.loop-path-preserved
loop-path-preserved g c =
    go_on _ _ _ _ _ _
    (λ xs ys before more.
    argument_more (g.F.Folders.holds c.args.files.now) (g.F.Folders.lists c.args.files.now) c.args.checks.now.lines c.deref-path-items.result.now c.loop-path.path-index _ _ _ _ xs ys c.loop-path-test.true
    before more)
    c.loop-path.invariant c.check_argument.ensures

pub returns : goal.returns
returns g c =
    along
    (λ ps. OfArguments (g.F.Folders.holds c.args.files.now) (g.F.Folders.lists c.args.files.now) c.args.checks.now.lines (names ps) (g.I.Read.remaining c.args.input.now) (g.I.Read.remaining c.loop-path.input))
    _ _ _ _ (take_all c.loop-path.path-index c.deref-path-items.result.now c.loop-path-test.false ∙ c.deref-path-items.ensures.value) c.loop-path.invariant
