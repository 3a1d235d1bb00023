use Rattle.std.proofs.Common.{map, refl}
use Rattle.std.proofs.lemmas.List.{take_all}
use Rattle.file_forms.specs.Subjects.{Are, unread}
use Rattle.file_forms.proofs.Going.{along, go_on, stays, texts, unread_more}
use Rattle.file_forms.proofs.run.Run.refuse_each.Goals as goal

pub loop-folder-init : goal.loop-folder-init
loop-folder-init g c = λ linked. stays _ _ refl

pub loop-folder-preserved : goal.loop-folder-preserved
loop-folder-preserved g c = λ linked.
    go_on _ _ _ _ _ _
    (λ xs ys are more.
    unread_more c.args.folders.now c.loop-folder.folder-index c.folder-item.result c.as_str-path.result.now xs ys c.loop-folder-test.true c.folder-item.is c.as_str-path.ensures.value are more)
    (c.loop-folder.invariant linked)
    (c.refuse_unread.ensures linked c.cannot_read.ensures)

pub returns : goal.returns
returns g c = λ linked.
    along (λ fs. Are (map unread (texts fs))) _ _ _ _ (take_all c.loop-folder.folder-index c.args.folders.now c.loop-folder-test.false) (c.loop-folder.invariant linked)
