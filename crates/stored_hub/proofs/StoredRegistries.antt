-- The rows of a hub's registries, from call to call and from commit to commit.
use Rattle.std.proofs.Common.{◌≡◌, ◌⊎◌, false, List, Option, None, inl, inr, refl, sym, ap, ◌∙◌, subst}
use Rattle.connections.specs.declared.handlers.Unsettled.{Unsettled}
use Rattle.definitions.specs.Patterns.{regular_search}
use Rattle.definitions.specs.Lists.{has_repeat}
use Rattle.definitions.specs.Registries.{Request, Reply, stored, deleted, stored_all, validated, bundled, refused, refused_at}
use Rattle.definitions.specs.Services.{KeyedRegistry, IsCallAnswer}
use Rattle.definitions.specs.Values.{Text, same_text}
use Rattle.definition_laws.specs.Services.{AreAllKept}
use Rattle.stored_rows.specs.Laws.{HaveOwnBodies}
use Rattle.stored_rows.specs.Restoring.{HaveDistinctDigests, Restores, emptied}
use Rattle.stored_rows.specs.Rows.{Row, rows_of, rows_after}
use Rattle.stored_rows.proofs.AnsweredRows.{calls_change_rows}
use Rattle.stored_rows.proofs.NewRows.{new_documents_have_no_row}
use Rattle.stored_rows.proofs.KeyedRegistries.{distinct_by_emptied, emptied_digests}
use Rattle.stored_rows.proofs.RegistryRows.{rows_ascend}
use Rattle.stored_rows.proofs.RestoredRows.{calls_keep, one_result}
use Rattle.stored_rows.proofs.RowsPutBack.{rows_give_back}
use Rattle.stored_hub.specs.Storing.{IsStored, WritesReply, RecoversNoMore, Finds, is_change}

-- ---- one call
module _ {D : Type 0} (holds : D → List Row → Type 0) where
  pub stored_after : (before after : D) (was now : Option Unsettled) (ks ls : List KeyedRegistry) (key : Text) (q : Request) (r : Reply) → HaveDistinctDigests ks
      → AreAllKept regular_search ks → IsCallAnswer regular_search ks (key, q) r ls → (now ≡ None → was ≡ None)
      → (now ≡ None → WritesReply holds before key ls r after) → IsStored holds before was ks → IsStored holds after now ls
  stored_after before after was now ks ls key q r distinct kept answer back writes held up =
      subst (holds after) (sym (calls_change_rows regular_search ks ls key q r distinct kept answer))
      (writes up (rows_of ks) (rows_ascend ks) (new_documents_have_no_row regular_search ks ls key q r distinct kept answer) (held (back up)))

pub distinct_after : (ks ls : List KeyedRegistry) (key : Text) (q : Request) (r : Reply) → HaveDistinctDigests ks → IsCallAnswer regular_search ks (key, q) r ls
    → HaveDistinctDigests ls
distinct_after ks ls key q r distinct answer = distinct_by_emptied ks ls (calls_keep regular_search ks ls (key, q) r answer) distinct

-- a reply that grants no change changes no row
pub no_change : (key : Text) (ls : List KeyedRegistry) (r : Reply) (rows : List Row) → is_change r ≡ false → rows_after key ls r rows ≡ rows
no_change key ls (stored uri there) rows e = cc
no_change key ls (deleted uri) rows e = cc
no_change key ls (stored_all us) rows e = cc
no_change key ls (validated t) rows e = refl
no_change key ls (bundled t) rows e = refl
no_change key ls (refused f) rows e = refl
no_change key ls (refused_at k f) rows e = refl

pub same_rows_after : (ks ls : List KeyedRegistry) (key : Text) (q : Request) (r : Reply) → HaveDistinctDigests ks → AreAllKept regular_search ks
    → IsCallAnswer regular_search ks (key, q) r ls → is_change r ≡ false → rows_of ls ≡ rows_of ks
same_rows_after ks ls key q r distinct kept answer none =
    calls_change_rows regular_search ks ls key q r distinct kept answer ∙ no_change key ls r (rows_of ks) none

-- ---- what an opening finds
emptied_distinct : (ks : List KeyedRegistry) → HaveDistinctDigests ks → HaveDistinctDigests (emptied ks)
emptied_distinct ks distinct = ap (has_repeat same_text) (emptied_digests ks) ∙ distinct

-- the rows of the registries give the registries
pub found_again : (ks ls : List KeyedRegistry) (rs : List Row) → HaveDistinctDigests ks → AreAllKept regular_search ks → HaveOwnBodies ks
    → rs ≡ rows_of ks → Restores regular_search (emptied ks) rs ls → ls ≡ ks
found_again ks ls rs distinct kept bodies same restores =
    one_result regular_search (emptied ks) ls ks rs (emptied_distinct ks distinct) restores
    (subst (λ ss. Restores regular_search (emptied ks) ss ks) (sym same) (rows_give_back regular_search ks distinct kept bodies))

module _ {D : Type 0} (recovers : D → List Row → Type 0) where
  -- from a call on: what might be found then might be found before it
  pub found_before : (before after : D) (ks ls ms : List KeyedRegistry) → emptied ls ≡ emptied ks → RecoversNoMore recovers before after
      → Finds recovers after ls ms → Finds recovers before ks ms
  found_before before after ks ls ms same fewer (rs, (may, restores)) =
      (rs, (fewer rs may, subst (λ es. Restores regular_search es rs ms) same restores))

  -- where only the rows of the registries may be recovered
  pub found_only : (store : D) (ks ms : List KeyedRegistry) → HaveDistinctDigests ks → AreAllKept regular_search ks → HaveOwnBodies ks
      → ((rs : List Row) → recovers store rs → rs ≡ rows_of ks) → Finds recovers store ks ms → ms ≡ ks
  found_only store ks ms distinct kept bodies only (rs, (may, restores)) = found_again ks ms rs distinct kept bodies (only rs may) restores

  -- where a commit may have been made
  pub found_either : (before after : D) (ks ms : List KeyedRegistry) → HaveDistinctDigests ks → AreAllKept regular_search ks → HaveOwnBodies ks
      → ((rs : List Row) → recovers after rs → recovers before rs ⊎ (rs ≡ rows_of ks)) → Finds recovers after ks ms → Finds recovers before ks ms ⊎ (ms ≡ ks)
  found_either before after ks ms distinct kept bodies either (rs, (may, restores)) = elim (either rs may) [
    | inl old ↦ inl (rs, (old, restores))
    | inr same ↦ inr (found_again ks ms rs distinct kept bodies same restores)
  ]
