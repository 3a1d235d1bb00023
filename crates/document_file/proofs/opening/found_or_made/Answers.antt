use Rattle.std.proofs.Common.{ap₂, arith, inr, sym, true≢false, ◌∙◌, ◌≡◌}
use Rattle.sqlite_wal.specs.Files.{seen_image}
use Rattle.sqlite_wal.specs.PageSize.{bytes_of}
use Rattle.sqlite_wal.specs.Recovery.{Image}
use Rattle.document_file.specs.Refusals.{IsHonest}
use Rattle.document_file.proofs.Found.{blank_stands, both_ok, clean_before, each_err}
use Rattle.document_file.proofs.Refusals.{found_sized, honest_files}
use Rattle.document_file.proofs.opening.found_or_made.Goals as goal

pub returns-then-branch-clause-found : goal.returns-then-branch-clause-found
returns-then-branch-clause-found g c = both_ok c.made_in_blank.result c.made_in_blank.ensures.empty c.made_in_blank.ensures.honest
    (λ store empty honest clean.
    let size = bytes_of c.args.size in
    let blank = (c.in_ok-are_blank.ensures.blank (honest clean)).0 c.if-branch.true in
    inr (
      empty clean,
      blank_stands size size (seen_image g.D.Disk c.args.files.log c.args.files.db) c.args.size.smallest (omega (arith, c.args.size.smallest)) blank,
    ))

pub returns-else-branch-clause-found : goal.returns-else-branch-clause-found
returns-else-branch-clause-found g c =
    let same : seen_image g.D.Disk c.are_blank.new.files.log c.are_blank.new.files.db ≡ seen_image g.D.Disk c.args.files.log c.args.files.db =
    ap₂ (λ log db. record { log = log; db = db }) c.in_ok-are_blank.ensures.log.seen c.in_ok-are_blank.ensures.db.seen in
    rw same at c.found.ensures.found

pub returns-else-branch-clause-honest : goal.returns-else-branch-clause-honest
returns-else-branch-clause-honest g c = both_ok c.found.result c.found.ensures.honest c.found.ensures.honest (λ store honest again clean.
    clean_before g.D.Disk c.args.files.log c.are_blank.new.files.log c.args.files.db c.are_blank.new.files.db c.in_ok-are_blank.ensures.log c.in_ok-are_blank.ensures.db
    (honest clean))

pub returns-else-branch-clause-err : goal.returns-else-branch-clause-err
returns-else-branch-clause-err g c =
    let image : Image = seen_image g.D.Disk c.args.files.log c.args.files.db in
    let same : seen_image g.D.Disk c.are_blank.new.files.log c.are_blank.new.files.db ≡ image =
    ap₂ (λ log db. record { log = log; db = db }) c.in_ok-are_blank.ensures.log.seen c.in_ok-are_blank.ensures.db.seen in
    each_err c.found.result (rw same at c.found.ensures.err) (λ fault it. found_sized (IsHonest g.D.Disk) (bytes_of c.args.size) image fault it
    (λ honest blank. true≢false
    (sym ((c.in_ok-are_blank.ensures.blank (honest_files g.D.Disk honest c.are_blank.new.files.log c.are_blank.new.files.db)).1 blank) ∙ c.if-branch.false)))

pub returns-then-branch-clause-honest : goal.returns-then-branch-clause-honest
returns-then-branch-clause-honest g c = both_ok c.made_in_blank.result c.made_in_blank.ensures.honest c.made_in_blank.ensures.honest (λ store honest again clean.
    clean_before g.D.Disk c.args.files.log c.are_blank.new.files.log c.args.files.db c.are_blank.new.files.db c.in_ok-are_blank.ensures.log c.in_ok-are_blank.ensures.db
    (honest clean))
