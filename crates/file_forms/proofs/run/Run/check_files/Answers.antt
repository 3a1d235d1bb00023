use Rattle.std.proofs.Common.{◌++◌, refl, subst}
use Rattle.std.proofs.lemmas.List.{take_all}
use Rattle.file_forms.specs.Subjects.{OfEach, OfFile}
use Rattle.file_forms.proofs.Going.{along, each_more, go_on, stays, texts, texts_more}
use Rattle.file_forms.proofs.run.Run.check_files.Goals as goal

pub loop-path-init : goal.loop-path-init
loop-path-init g c = stays _ _ refl

pub loop-path-preserved : goal.loop-path-preserved
loop-path-preserved g c =
    let of_file = OfFile (g.F.Folders.holds c.args.files.now) c.args.lines in
    go_on _ _ _ _ _ _
    (λ xs ys each more.
    subst (λ ps. OfEach of_file ps (xs ++ ys))
    (texts_more c.args.paths.now c.loop-path.path-index c.path-item.result c.as_str.result.now c.loop-path-test.true c.path-item.is c.as_str.ensures.value)
    (each_more of_file _ c.as_str.result.now xs ys each more))
    c.loop-path.invariant c.check_file.ensures

pub returns : goal.returns
returns g c =
    along (λ ps. OfEach (OfFile (g.F.Folders.holds c.args.files.now) c.args.lines) (texts ps)) _ _ _ _ (take_all c.loop-path.path-index c.args.paths.now c.loop-path-test.false) c.loop-path.invariant
