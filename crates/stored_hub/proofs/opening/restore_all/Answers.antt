use Rattle.std.proofs.Common.{[], ◌∷◌, ◌++◌, refl, subst, sym, true≢false, ◌∙◌, option_map}
use Rattle.definitions.specs.Patterns.{regular_search}
use Rattle.stored_rows.specs.RowViews.{row_view}
use Rattle.stored_rows.proofs.RegistryRows.{rows_ascend}
use Rattle.stored_rows.proofs.RestoredRows.{restored_rows, restoring_keeps}
use Rattle.tenant_hub.specs.Hubs.{hub_view}
use Rattle.stored_hub.proofs.OpenedRows.{all_restored, ascend_later, ends_later, ends_nowhere, has_next, has_none, not_behind, read_on, restores_later, Outruns}
use Rattle.stored_hub.proofs.RepeatedDigests.{digests_stay}
use Rattle.stored_hub.proofs.opening.restore_all.Goals as goal

pub rows-init : goal.rows-init
rows-init g c = (
  [],
  record {
    read = c.in_default.ensures.read;
    restores = refl;
    ascend = rows_ascend [];
    ends = ends_nowhere;
    has_last = has_none;
    same = record { same = c.in_default.ensures.holds; found = c.in_default.ensures.recovers };
  },
)

pub returns-in-Ok-None-clause-ok : goal.returns-in-Ok-None-clause-ok
returns-in-Ok-None-clause-ok g c =
    let rows = c.rows.invariant.0 in
    let l = c.rows.invariant.1 in
    all_restored g.D.DocumentStore.holds c.next.new.self (hub_view c.args.hub.now) (hub_view c.rows.hub) rows c.requires.distinct c.requires.empty l.ascend l.restores
    (c.in-Ok-None.ensures.none rows c.in-Ok-None.field-0-is l.read)

pub rows-preserved : goal.rows-preserved
rows-preserved g c =
    let rows = c.rows.invariant.0 in
    let l = c.rows.invariant.1 in
    let last = option_map row_view c.rows.last in
    let row = row_view c.in-Ok-Some.row in
    let behind = c.is_behind.ensures.0 c.if-not-is_behind.false in (
      rows ++ row ∷ [],
      record {
        read = c.in-Ok-Some.ensures.some c.in-Ok-Some.row rows c.in-Ok-Some.field-0-is l.read;
        restores = restores_later (hub_view c.args.hub.now) (hub_view c.rows.hub) (hub_view c.restore_row.new.hub) rows row l.restores c.in-Ok.ensures.ok;
        ascend = ascend_later rows last row behind l.ends l.ascend;
        ends = ends_later rows last row behind l.ends;
        has_last = has_next rows row;
        same = read_on l.same c.in-Ok-Some.ensures.holds c.in-Ok-Some.ensures.recovers;
      },
    )

-- ---- what is left of the store
pub returns-in-Ok-None-clause-same : goal.returns-in-Ok-None-clause-same
returns-in-Ok-None-clause-same g c = read_on c.rows.invariant.1.same c.in-Ok-None.ensures.holds c.in-Ok-None.ensures.recovers

pub returns-then-not-is_behind-clause-same : goal.returns-then-not-is_behind-clause-same
returns-then-not-is_behind-clause-same g c = read_on c.rows.invariant.1.same c.in-Ok-Some.ensures.holds c.in-Ok-Some.ensures.recovers

pub returns-in-Err-restore_row-clause-same : goal.returns-in-Err-restore_row-clause-same
returns-in-Err-restore_row-clause-same g c = read_on c.rows.invariant.1.same c.in-Ok-Some.ensures.holds c.in-Ok-Some.ensures.recovers

-- ---- refusals
pub returns-then-not-is_behind-clause-err : goal.returns-then-not-is_behind-clause-err
returns-then-not-is_behind-clause-err g c =
    let ks = hub_view c.args.hub.now in
    let ms = hub_view c.rows.hub in
    let rows = c.rows.invariant.0 in
    let l = c.rows.invariant.1 in
    let row = row_view c.in-Ok-Some.row in
    let before = not_behind rows (option_map row_view c.rows.last) row l.has_last (λ behind. true≢false (sym (c.is_behind.ensures.1 behind) ∙ c.if-not-is_behind.true)) in (
      ms,
      row,
      restoring_keeps regular_search ks ms rows l.restores,
      refl,
      subst (λ ss. Outruns ss row) (sym (restored_rows regular_search ks ms rows c.requires.distinct c.requires.empty l.ascend l.restores)) before,
    )

pub restore_row-requires : goal.restore_row-requires
restore_row-requires g c =
    let ks = hub_view c.args.hub.now in
    let ms = hub_view c.rows.hub in
    record { keys = c.requires.keys ∙ sym (digests_stay ks ms (restoring_keeps regular_search ks ms c.rows.invariant.0 c.rows.invariant.1.restores)) }

pub returns-in-Err-restore_row-clause-err : goal.returns-in-Err-restore_row-clause-err
returns-in-Err-restore_row-clause-err g c =
    let ms = hub_view c.rows.hub in
    let same = restoring_keeps regular_search (hub_view c.args.hub.now) ms c.rows.invariant.0 c.rows.invariant.1.restores in
    (ms, row_view c.in-Ok-Some.row, same, refl, c.in-Err-restore_row.ensures.err)
