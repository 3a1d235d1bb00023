use Rattle.std.proofs.Common.{◌∙◌, refl}
use Rattle.file_forms.specs.Gathered.{IsUnreadFolder}
use Rattle.file_forms.proofs.Telling.{one_told, some_after}
use Rattle.file_forms.proofs.gathering.tell_unread.Goals as goal

pub loop-folder-init : goal.loop-folder-init
loop-folder-init g c = record { told = refl; printed = refl }

pub loop-folder-preserved : goal.loop-folder-preserved
loop-folder-preserved g c =
    let before = c.loop-folder.invariant in
    record {
      told = some_after IsUnreadFolder c.loop-folder.all _ _ _ before.told (one_told IsUnreadFolder c.cannot_read.result _ _ (c.as_str.result.now, c.cannot_read.ensures) c.tell.ensures.told);
      printed = c.tell.ensures.printed ∙ before.printed;
    }
