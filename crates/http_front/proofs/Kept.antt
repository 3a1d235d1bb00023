-- What an opening may find, in the words of registries.
use Rattle.std.specs.Prelude.{OnOk}
use Rattle.std.proofs.Common.{◌≡◌, List, [], ◌∷◌, ◌++◌, None, Some, Result, Ok, Err, map, refl, sym, ap, ◌∙◌, subst, append_assoc, append-nil, inl, inr}
use Rattle.std.proofs.lemmas.List.{append_cancel_left}
use Rattle.definitions.specs.Services.{KeyedRegistry}
use Rattle.http_definitions.specs.Connections.{holding}
use Rattle.connections.specs.Events.{Event, stream_of}
use Rattle.connections.specs.Found.{FindsOnly}
use Rattle.connections.specs.declared.outage.Outage.{Outage}
use Rattle.faults.specs.declared.Fault.TheVariants.{NoRoom}
use Rattle.network.specs.Traffic.{Moved}
use Rattle.serving.specs.Transfers.{Transfer, transferred_bytes}
use Rattle.serving.specs.Exchanges.{wire, Tells, LeavesUntold}
use Rattle.serving.specs.Kept.{IsFound}
use Rattle.serving.specs.Serving.{IsServed, IsBounded}
use Rattle.serving.specs.Talks.{Talk, IsTalk}
use Rattle.serving.specs.declared.failure.Failure.{Failure}
use Rattle.serving.specs.declared.failure.Failure.TheVariants as failure
use Rattle.serving.proofs.Written.{transferred-append}
use Rattle.serving_many.specs.Kept.{IsKept}
use Rattle.http_front.specs.Calls.{call_answers}
use Rattle.http_front.specs.Isolation.{AreServedAlone}
use Rattle.http_front.specs.Running.{IsTalkKeptAlone, IsHubKept, OnSettled}
use Rattle.http_front.specs.SideBySide.{AreAnswered, AreServedSideBySide, IsKeptAlone, AreKeptSideBySide}
use Rattle.http_front.proofs.Isolated.{isolated_of, served_alone, hub_served}

-- ---- many connections side by side
abbrev pub answered_alone : {H : Type 0} (state : H → List KeyedRegistry) (finds : H → List KeyedRegistry → Type 0) (before after : H) (reads writes more others : List Moved)
    → AreAnswered state finds call_answers before reads writes after more others → AreServedSideBySide (state before) reads writes more others
answered_alone state finds before after reads writes more others x =
    let alone = isolated_of x.events (state before) (state after) x.now x.happened in
    record {
      events = x.events;
      now = x.now;
      after = state after;
      answered = alone.0;
      isolated = alone.1;
      read = x.read;
      read_on = x.read_on;
      wrote = x.wrote;
      wrote_on = x.wrote_on;
      heard = x.heard;
      told = x.told;
    }

kept_alone : (before found : List KeyedRegistry) (events : List Event) (wrote : List Moved) → IsKept call_answers before events wrote found → IsKeptAlone before events wrote found
kept_alone before found events wrote x =
    let alone = isolated_of x.kept before found x.standing x.happened in
    record { kept = x.kept; later = x.later; parts = x.parts; now = x.standing; answered = alone.0; isolated = alone.1; told = x.told }

-- by what answers by registries, and of which an opening found those at the start alone
pub kept_side_by_side : {H : Type 0} (state : H → List KeyedRegistry) (finds : H → List KeyedRegistry → Type 0) (before after : H) (reads writes more others : List Moved) (r : Result (Unit {0}) Outage)
    → AreAnswered state finds call_answers before reads writes after more others → OnOk r (FindsOnly finds after (state after)) → FindsOnly finds before (state before)
    → AreKeptSideBySide (state before) (finds after) reads writes r more others
kept_side_by_side state finds before after reads writes more others r x durable clean = record {
  served = answered_alone state finds before after reads writes more others x;
  kept = λ found f. kept_alone (state before) found x.events x.wrote (x.kept clean found f);
  durable = durable;
}

-- ---- one connection
-- the registries at the end
all_talk : (before after : List KeyedRegistry) (talk : Talk) → AreServedAlone before (talk ∷ []) after → IsTalkKeptAlone before talk after
all_talk before after talk x = record {
  events = x.events;
  now = x.now;
  answered = x.answered;
  isolated = x.isolated;
  unheard = [];
  heard = sym x.carried.0.heard ∙ sym (append-nil (stream_of 0 x.events));
  unwritten = x.carried.0.unwritten;
  told = x.carried.0.told;
}

-- what of a connection was told, and what answered up to there: the last piece is left out, of which nothing is told
pub untold_part : (before after : List KeyedRegistry) (reads writes more others : List Transfer) (talk : Talk) (x : LeavesUntold call_answers (wire before reads writes) (wire after more others))
    → more ≡ reads ++ talk.read → others ≡ writes ++ talk.wrote
    → (part : Talk) × (unheard : List Transfer) × (talk.read ≡ part.read ++ unheard) × (talk.wrote ≡ part.wrote) × IsTalk call_answers before part x.middle.handler
untold_part before after reads writes more others talk x read_on wrote_on = (part, Some x.piece ∷ [], read, wrote, served)
  where
    part : Talk
    part = record { read = map (λ p. Some p) x.told.0.pieces ++ []; wrote = x.told.1.writes; result = Err (failure.Fault NoRoom) }

    told : Tells call_answers (wire before reads writes) [] (holding x.held) (wire x.middle.handler (reads ++ part.read) (writes ++ part.wrote))
    told = (
      record { pieces = x.told.0.pieces; have_bytes = x.told.0.have_bytes; on = refl; out = x.told.0.out; takes = x.told.0.takes },
      record { writes = x.told.1.writes; on = refl; whole = x.told.1.whole },
    )

    served : IsTalk call_answers before part x.middle.handler
    served = (reads, writes, inl (inr (inr (refl, inl (holding x.held, [], inl refl, told)))))

    read : talk.read ≡ part.read ++ Some x.piece ∷ []
    read = append_cancel_left reads talk.read (part.read ++ Some x.piece ∷ [])
        (sym read_on ∙ x.on ∙ ap (λ m. m ++ Some x.piece ∷ []) x.told.0.on ∙ append_assoc reads part.read (Some x.piece ∷ []))

    wrote : talk.wrote ≡ part.wrote
    wrote = append_cancel_left writes talk.wrote part.wrote (sym wrote_on ∙ x.untold ∙ x.told.1.on)

-- the registries there
untold_talk : (before after : List KeyedRegistry) (reads writes more others : List Transfer) (talk : Talk) (x : LeavesUntold call_answers (wire before reads writes) (wire after more others))
    → more ≡ reads ++ talk.read → others ≡ writes ++ talk.wrote → IsTalkKeptAlone before talk x.middle.handler
untold_talk before after reads writes more others talk x read_on wrote_on =
    let p = untold_part before after reads writes more others talk x read_on wrote_on in
    let alone : AreServedAlone before (p.0 ∷ []) x.middle.handler = served_alone (p.0 ∷ []) before x.middle.handler (x.middle.handler, inl p.4, refl) in
    record {
      events = alone.events;
      now = alone.now;
      answered = alone.answered;
      isolated = alone.isolated;
      unheard = transferred_bytes p.1;
      heard = ap transferred_bytes p.2 ∙ transferred-append p.0.read p.1 ∙ ap (λ t. t ++ transferred_bytes p.1) (sym alone.carried.0.heard);
      unwritten = alone.carried.0.unwritten;
      told = alone.carried.0.told ∙ ap (λ ts. transferred_bytes ts ++ alone.carried.0.unwritten) (sym p.3);
    }

kept_talk : (before after found : List KeyedRegistry) (reads writes more others : List Transfer) (talk : Talk) (r : Result (Unit {0}) Failure)
    → more ≡ reads ++ talk.read → others ≡ writes ++ talk.wrote → AreServedAlone before (talk ∷ []) after
    → IsFound call_answers (wire before reads writes) r (wire after more others) found → IsTalkKeptAlone before talk found
kept_talk before after found reads writes more others talk (Ok u) read_on wrote_on alone x =
    subst (λ ks. IsTalkKeptAlone before talk ks) (sym x) (all_talk before after talk alone)
kept_talk before after found reads writes more others talk (Err (failure.Fault f)) read_on wrote_on alone x =
    subst (λ ks. IsTalkKeptAlone before talk ks) (sym x) (all_talk before after talk alone)
kept_talk before after found reads writes more others talk (Err (failure.Unsettled why)) read_on wrote_on alone x = elim x [
  | inl e ↦ subst (λ ks. IsTalkKeptAlone before talk ks) (sym e) (all_talk before after talk alone)
  | inr w ↦ subst (λ ks. IsTalkKeptAlone before talk ks) (sym w.1) (untold_talk before after reads writes more others talk w.0 read_on wrote_on)
]

-- the registries at the end, unless settling failed
durable_talk : (finds : List KeyedRegistry → Type 0) (before after : List KeyedRegistry) (reads writes more others : List Transfer) (r : Result (Unit {0}) Failure)
    → ((f : List KeyedRegistry) → finds f → IsFound call_answers (wire before reads writes) r (wire after more others) f)
    → OnSettled r ((f : List KeyedRegistry) → finds f → f ≡ after)
durable_talk finds before after reads writes more others (Ok u) found = found
durable_talk finds before after reads writes more others (Err (failure.Fault f)) found = found
durable_talk finds before after reads writes more others (Err (failure.Unsettled why)) found = tt

-- by what answers by registries, and of which an opening found those at the start alone
pub hub_kept : {H : Type 0} (state : H → List KeyedRegistry) (finds : H → List KeyedRegistry → Type 0) (before after : H) (reads writes more others : List Transfer) (r : Result (Unit {0}) Failure)
    → IsServed call_answers None (wire (state before) reads writes) r (wire (state after) more others) → IsBounded reads more
    → (FindsOnly finds before (state before) → (f : List KeyedRegistry) → finds after f → IsFound call_answers (wire (state before) reads writes) r (wire (state after) more others) f)
    → FindsOnly finds before (state before) → IsHubKept (state before) (finds after) reads writes r more others
unfolding hub_served
hub_kept state finds before after reads writes more others r x bounded found clean =
    let s = hub_served (state before) (state after) reads writes more others r x bounded in
    record {
      served = s;
      kept = λ f h. kept_talk (state before) (state after) f reads writes more others s.talk r s.read_on s.wrote_on s.alone (found clean f h);
      durable = durable_talk (finds after) (state before) (state after) reads writes more others r (found clean);
    }
