-- Registries whose documents a store keeps.
use Rattle.std.proofs.Common.{◌≡◌, ◌<◌, ℕ, List, [], ◌∷◌, ◌++◌, Option, None, Some, Result, Ok, Err, length, append-nil, ap, ◌∙◌, refl, sym, subst, inl, inr}
use Rattle.std.specs.Prelude.{Vec}
use Rattle.std.specs.Global.{Global}
use Rattle.definitions.specs.Faults as meaning
use Rattle.definitions.specs.Schemas.{Document}
use Rattle.definitions.specs.Services.{KeyedRegistry}
use Rattle.definitions.specs.Tenants.{Tenant, file_tenants}
use Rattle.definitions.specs.Values.{Text}
use Rattle.connections.specs.declared.handlers.Unsettled.{Unsettled}
use Rattle.connections.specs.declared.outage.Outage.{Outage}
use Rattle.connections.specs.declared.outage.Outage.TheVariants as outage
use Rattle.http_front.specs.Calls.{call_answers}
use Rattle.http_front.specs.Isolation.{AreServedAlone}
use Rattle.http_front.specs.Servers.{server_for, server_of}
use Rattle.http_front.specs.SideBySide.{AreKeptSideBySide}
use Rattle.http_front.specs.Stored.{FindsThese}
use Rattle.http_front.proofs.Isolated.{served_alone}
use Rattle.http_front.proofs.Kept.{untold_part}
use Rattle.network.specs.Traffic.{Moved}
use Rattle.serving.specs.Exchanges.{wire}
use Rattle.serving.specs.Kept.{IsFound}
use Rattle.serving.specs.Talks.{AreAllServed, AreServed, IsFoundBehindAll, IsTalk, Talk}
use Rattle.serving.specs.Transfers.{Transfer}
use Rattle.serving.specs.declared.failure.Failure.{Failure}
use Rattle.serving.specs.declared.failure.Failure.TheVariants as failure
use Rattle.serving.proofs.Talked.{served_more}
use Rattle.stored_hub.specs.NewServers.{NewServersHaveNoDocuments}
use Rattle.stored_hub.specs.Storing.{Finds}
use Rattle.stored_rows.specs.Restoring.{emptied}
use Rattle.stored_rows.specs.Rows.{Row}
use Rattle.service_forms.specs.Endings.{EndsListening}
use Rattle.http_front.specs.Libraries.{OnLibraryOf}
use Rattle.service_forms.specs.Services.{AreServedSo, OnServerIn, batch_of}
use Rattle.service_forms.specs.Stored.{AreTalksKept, ServeDurably, ServeStoredInTurn, ServesFound, ServesKept}
use Rattle.service_forms.specs.declared.stop.Stop.{Stop}
use Rattle.service_forms.specs.declared.service.Sources.{Sources}

-- ---- registries of files
served_empty : NewServersHaveNoDocuments → (tenants : Result (List Tenant) meaning.Fault) (capacity : ℕ) (library : Result (List Document) meaning.Fault) (ks : List KeyedRegistry)
    → server_for tenants capacity library ≡ Ok ks → emptied ks ≡ ks
served_empty law (Ok tenants) capacity library ks e = law tenants capacity library ks e
served_empty law (Err f) capacity library ks e = absurd (cc e)

-- they have no documents yet
pub files_empty : NewServersHaveNoDocuments → (sources : Sources) (capacity : ℕ) (ks : List KeyedRegistry)
    → OnServerIn sources capacity (λ server. server ≡ Ok ks) → emptied ks ≡ ks
files_empty law sources capacity ks h = by (batch_of sources) h
  where
    none : (library : Result (List Document) meaning.Fault) → server_of sources.tenants.items capacity library ≡ Ok ks → emptied ks ≡ ks
    none library e = served_empty law (file_tenants sources.tenants.items) capacity library ks e

    by : (library : Option Text) → OnLibraryOf library (λ l. server_of sources.tenants.items capacity l ≡ Ok ks) → emptied ks ≡ ks
    by None e = none _ e
    by (Some batch) x = elim x [
      | inl e ↦ none _ e
      | inr p ↦ none _ p.1
    ]

-- ---- connections one after the other
-- what was closed behind them
pub closed_store : {H D : Type 0} (recovers : D → List Row → Type 0) (store_of : H → D) (registries_of : H → List KeyedRegistry) (after behind closed : H) → behind ≡ after
    → registries_of closed ≡ registries_of behind
    → ((ks : List KeyedRegistry) → Finds recovers (store_of closed) (registries_of closed) ks → Finds recovers (store_of behind) (registries_of behind) ks)
    → FindsThese recovers (store_of after) (registries_of after) → FindsThese recovers (store_of closed) (registries_of after)
closed_store recovers store_of registries_of after behind closed same stay found these = λ ls f.
    let closed_found = subst (λ ks. Finds recovers (store_of closed) ks ls) (sym (stay ∙ ap registries_of same)) f in
    these ls (subst (λ h. Finds recovers (store_of h) (registries_of h) ls) same (found ls closed_found))

-- all of them were settled
served_durably : {D : Type 0} (recovers : D → List Row → Type 0) (before start after : List KeyedRegistry) (P : ℕ → Type 0) (xs : List Talk) (store : D) → start ≡ before
    → AreServed call_answers start xs after → P (length xs) → FindsThese recovers store after → ServeDurably recovers before P
served_durably recovers before start after P xs store same x h these = record {
  talks = xs;
  after = after;
  counted = h;
  alone = subst (λ ks. AreServedAlone ks xs after) same (served_alone xs start after x);
  store = store;
  durable = these;
}

-- the last one wasn't
talks_kept : (start middle after found : List KeyedRegistry) (reads writes : List Transfer) (xs : List Talk) (x : Talk) (r : Result (Unit {0}) Failure)
    → AreServed call_answers start xs middle → IsTalk call_answers middle x after
    → IsFound call_answers (wire middle reads writes) r (wire after (reads ++ x.read) (writes ++ x.wrote)) found → AreTalksKept start found
talks_kept start middle after found reads writes xs x r served talk h = by r h
  where
    whole : found ≡ after → AreTalksKept start found
    whole e = (
      xs,
      x,
      x,
      ([], sym (append-nil x.read), refl),
      subst (λ ks. AreServedAlone start (xs ++ x ∷ []) ks) (sym e) (served_alone (xs ++ x ∷ []) start after (served_more call_answers start middle after xs x served (inl talk))),
    )

    by : (r : Result (Unit {0}) Failure) → IsFound call_answers (wire middle reads writes) r (wire after (reads ++ x.read) (writes ++ x.wrote)) found → AreTalksKept start found
    by (Ok u) e = whole e
    by (Err (failure.Fault f)) e = whole e
    by (Err (failure.Unsettled why)) y = elim y [
      | inl e ↦ whole e
      | inr w ↦ let p = untold_part middle after reads writes (reads ++ x.read) (writes ++ x.wrote) x w.0 refl refl in (
        xs,
        x,
        p.0,
        (p.1, p.2, p.3),
        subst (λ ks. AreServedAlone start (xs ++ p.0 ∷ []) ks) (sym w.1)
            (served_alone (xs ++ p.0 ∷ []) start w.0.middle.handler (served_more call_answers start middle w.0.middle.handler xs p.0 served (inl p.4))),
      )
    ]

unsettled_kept : (before start after found : List KeyedRegistry) (why : Unsettled) → start ≡ before
    → IsFoundBehindAll call_answers start (Err (outage.Unsettled why)) after found → AreTalksKept before found
unsettled_kept before start after found why same x =
    subst (λ ks. AreTalksKept ks found) same (talks_kept start x.1 after found x.5.0 x.5.1 x.0 x.2 x.2.result x.3 x.4 x.5.2)

pub stored_in_turn : {D : Type 0} (recovers : D → List Row → Type 0) (before start after : List KeyedRegistry) (count : ℕ) (r : Result (Unit {0}) Outage) (store : D) → start ≡ before
    → AreAllServed call_answers count start r after → ((found : List KeyedRegistry) → Finds recovers store after found → IsFoundBehindAll call_answers start r after found)
    → ServeStoredInTurn recovers before count r
stored_in_turn recovers before start after count (Ok u) store same x found = served_durably recovers before start after (λ n. n ≡ count) x.0 store same x.1 x.2 found
stored_in_turn recovers before start after count (Err outage.Broken) store same x found = served_durably recovers before start after (λ n. n < count) x.0 store same x.1 x.2 found
stored_in_turn recovers before start after count (Err (outage.Unsettled why)) store same x found = (store, after, λ f h. unsettled_kept before start after f why same (found f h))

-- ---- connections side by side
-- behind an end without an error, where an opening finds no more
pub kept_on : (before : List KeyedRegistry) (finds fewer : List KeyedRegistry → Type 0) (reads writes more others : List Moved) → ((found : List KeyedRegistry) → fewer found → finds found)
    → AreKeptSideBySide before finds reads writes (Ok tt) more others → AreKeptSideBySide before fewer reads writes (Ok tt) more others
kept_on before finds fewer reads writes more others among x = record {
  served = x.served;
  kept = λ found f. x.kept found (among found f);
  durable = λ found f. x.durable found (among found f);
}

-- where an opening found the registries alone
found_so : {D : Type 0} (recovers : D → List Row → Type 0) (store : D) (ls : List KeyedRegistry) (end : Result (Unit {0}) Outage) → FindsThese recovers store ls
    → AreServedSo (ServesFound recovers store ls) end → AreServedSo (ServesKept recovers ls) end
found_so recovers store ls end found x = (x.0, x.1, x.2 found)

pub found_many : {D : Type 0} (recovers : D → List Row → Type 0) (store : D) (ls : List KeyedRegistry) (address : Text) (path : Option Text) (result : Result ℕ Stop)
    → FindsThese recovers store ls → EndsListening address path (AreServedSo (ServesFound recovers store ls)) result
    → EndsListening address path (AreServedSo (ServesKept recovers ls)) result
found_many recovers store ls address path (Ok status) found h = (h.0, found_so recovers store ls (Ok tt) found h.1)
found_many recovers store ls address path (Err stop) found h = elim h [
  | inl unopened ↦ inl unopened
  | inr outage ↦ inr (outage.0, outage.1, found_so recovers store ls (Err outage.0) found outage.2)
]
