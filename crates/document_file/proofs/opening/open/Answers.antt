use Rattle.std.proofs.Common.{ap, ap₂, inr, sym, ◌∙◌, ◌≡◌}
use Rattle.sqlite_wal.specs.Files.{seen_image}
use Rattle.sqlite_wal.specs.PageSize.{bytes_of}
use Rattle.sqlite_wal.specs.Recovery.{Image}
use Rattle.sqlite_trees.specs.View.{IsClean}
use Rattle.sqlite_store.specs.FileStore.{view}
use Rattle.document_file.proofs.Found.{any_found}
use Rattle.document_file.proofs.Refusals.{honest_files}
use Rattle.document_file.proofs.Rows.{same_rows}
use Rattle.document_file.proofs.opening.open.Goals as goal

pub returns-clause-found : goal.returns-clause-found
returns-clause-found g c clean =
    let image : Image = seen_image g.D.Disk c.args.files.log c.args.files.db in
    let new : IsClean (view c.in_ok-store.store) = rw c.over.ensures at clean in
    let same : seen_image g.D.Disk c.page_size.new.files.log c.page_size.new.files.db ≡ image =
    ap₂ (λ log db. record { log = log; db = db }) c.in_ok-size.ensures.log.seen c.in_ok-size.ensures.db.seen in
    any_found (bytes_of c.in_ok-size.size) image ((view c.over.result.store).trees 0) ((view c.in_ok-store.store).trees 0)
    (ap (λ s. (view s).trees 0) c.over.ensures)
    (rw same at (c.in_ok-store.ensures.found new))
    (c.in_ok-size.ensures.names (c.in_ok-store.ensures.honest new))

pub returns-clause-kept : goal.returns-clause-kept
returns-clause-kept g c rows others held found =
    let new : IsClean (view c.in_ok-store.store) = rw c.over.ensures at found.0 in
    let is = rw (← c.over.ensures) at (c.in_ok-store.ensures.kept new) in
    same_rows others rows (sym found.1.2 ∙ ap (λ f. f 0) (is.kept found.1.0 found.1.1) ∙ held found.0 is.sound)
