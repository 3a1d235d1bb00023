use Rattle.std.proofs.Common.{ap, inl, inr, refl, IsTrue, ◌∙◌}
use Rattle.sqlite_wal.specs.Files.{seen_image}
use Rattle.sqlite_wal.specs.PageSize.{bytes_of}
use Rattle.sqlite_wal.specs.Recovery.{Image}
use Rattle.sqlite_store.specs.FileStore.{view}
use Rattle.sqlite_store.specs.Unopened.{state_of}
use Rattle.document_file.specs.Refusals.{IsHonest}
use Rattle.document_file.proofs.Found.{both_ok, clean_files, each_err, opened_stands, refused_stands, undoubted}
use Rattle.document_file.proofs.Refusals.{honest_store, honest_unopened, later_stands, reading_found, refused_found, versioned_found}
use Rattle.document_file.proofs.opening.found.Goals as goal

pub returns-in-Ok-clause-found : goal.returns-in-Ok-clause-found
returns-in-Ok-clause-found g c = both_ok c.versioned.result c.versioned.ensures.rows c.versioned.ensures.clean (λ new rows clean is_clean.
    let old = clean is_clean in
    let honest = undoubted _ old in
    let before = c.in_ok-unopened.ensures in
    inl (rw (rows is_clean) (opened_stands c.in-Ok.store (bytes_of c.args.size) (seen_image g.D.Disk c.args.files.log c.args.files.db) c.in-Ok.ensures.ready
    (c.in-Ok.ensures.schema ∙ before.schema) ((c.in-Ok.ensures.kept honest).size ∙ before.size)
    (rw (before.size, before.files) at (c.in-Ok.ensures.found honest)) old)))

pub returns-in_ok-files_again-in-Err-Refused-default-clause-found :
    goal.returns-in_ok-files_again-in-Err-Refused-default-clause-found
returns-in_ok-files_again-in-Err-Refused-default-clause-found g c = both_ok c.finished.result c.finished.ensures.empty c.finished.ensures.honest
    (λ store empty honest clean.
    let before = c.in_ok-unopened.ensures in
    let left = c.in-Err-Refused-default.left in
    let kept : IsTrue (state_of left).is_clean = rw (clean_files left, ← c.in_ok-files_again-in-Err-Refused-default.ensures.same) (honest clean) in
    inr (
      empty clean,
      refused_stands c.in_ok-unopened.field-0 (bytes_of c.args.size) (seen_image g.D.Disk c.args.files.log c.args.files.db)
          (rw c.in-Err-Refused-default.field-0-0-is at (c.in-Err-Refused-default.ensures.cause kept)) before.schema before.size (rw before.files refl),
    ))

pub returns-in-Ok-clause-honest : goal.returns-in-Ok-clause-honest
returns-in-Ok-clause-honest g c = both_ok c.versioned.result c.versioned.ensures.clean c.versioned.ensures.clean (λ new clean again is_clean.
    rw (clean_files c.in_ok-unopened.field-0, c.in_ok-unopened.ensures.files) at (c.in-Ok.ensures.honest (undoubted _ (clean is_clean))))

pub returns-in_ok-files_again-in-Err-Refused-default-clause-honest :
    goal.returns-in_ok-files_again-in-Err-Refused-default-clause-honest
returns-in_ok-files_again-in-Err-Refused-default-clause-honest g c = both_ok c.finished.result c.finished.ensures.honest c.finished.ensures.honest
    (λ store honest _ clean.
    let left = c.in-Err-Refused-default.left in
    let kept : IsTrue (state_of left).is_clean = rw (clean_files left, ← c.in_ok-files_again-in-Err-Refused-default.ensures.same) (honest clean) in
    rw (clean_files c.in_ok-unopened.field-0, c.in_ok-unopened.ensures.files) at (c.in-Err-Refused-default.ensures.falls kept))

pub returns-in-Ok-clause-err : goal.returns-in-Ok-clause-err
returns-in-Ok-clause-err g c =
    let size = bytes_of c.args.size in
    let image : Image = seen_image g.D.Disk c.args.files.log c.args.files.db in
    let before = c.in_ok-unopened.ensures in
    each_err c.versioned.result c.versioned.ensures.err (λ fault it. versioned_found (IsHonest g.D.Disk) size image (view c.in-Ok.store) fault it
    (λ honest. honest_store honest c.in-Ok.store)
    (λ honest version told late.
    let clean = undoubted _ (honest_store honest c.in-Ok.store) in
    later_stands c.in-Ok.store size image c.in-Ok.ensures.ready (c.in-Ok.ensures.schema ∙ before.schema) ((c.in-Ok.ensures.kept clean).size ∙ before.size)
    (rw (before.size, before.files) at (c.in-Ok.ensures.found clean)) (honest_store honest c.in-Ok.store) version told late))

pub returns-in_ok-files_again-in-Err-Refused-default-clause-err :
    goal.returns-in_ok-files_again-in-Err-Refused-default-clause-err
returns-in_ok-files_again-in-Err-Refused-default-clause-err g c =
    let size = bytes_of c.args.size in
    let image : Image = seen_image g.D.Disk c.args.files.log c.args.files.db in
    let before = c.in_ok-unopened.ensures in
    each_err c.finished.result c.finished.ensures.err (λ fault it. refused_found (IsHonest g.D.Disk) size image fault it
    (λ honest. refused_stands c.in_ok-unopened.field-0 size image
    (rw c.in-Err-Refused-default.field-0-0-is at (c.in-Err-Refused-default.ensures.cause (honest_unopened honest c.in-Err-Refused-default.left)))
    before.schema before.size (rw before.files refl)))
