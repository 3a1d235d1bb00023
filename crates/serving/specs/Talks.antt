-- Connections that are served one after the other, and what was read and written on each.
use Rattle.std.specs.Prelude.{◌≡◌, ◌⊎◌, ◌+◌, ◌<◌, ℕ, List, [], ◌∷◌, ◌++◌, None, Result, Ok, Err, IsOk, length, ⊤}
use Rattle.definitions.specs.Values.{Text}
use Rattle.http_definitions.specs.Connections.{Answers}
use Rattle.faults.specs.declared.Fault.TheVariants.{ReadFailed}
use Rattle.connections.specs.Found.{FindsOnly}
use Rattle.connections.specs.declared.outage.Outage.{Outage}
use Rattle.connections.specs.declared.outage.Outage.TheVariants as outage
use Rattle.connections.specs.Events.{Event, stream_of, sent_to}
use Rattle.serving.specs.Transfers.{Transfer, transferred_bytes}
use Rattle.serving.specs.Exchanges.{wire}
use Rattle.serving.specs.declared.failure.Failure.{Failure}
use Rattle.serving.specs.declared.failure.Failure.TheVariants.{Fault, Unsettled}
use Rattle.serving.specs.Kept.{IsFound}
use Rattle.serving.specs.Serving.{IsServed}

-- one connection from its start to its end
pub record Talk : Type 0 where
  pub read : List Transfer
  pub wrote : List Transfer
  pub result : Result (Unit {0}) Failure

-- a new connection is served
abbrev pub IsTalk : {S : Type 0} → Answers S → S → Talk → S → Type 0
IsTalk answers s x t =
    (reads writes : List Transfer)
    × IsServed answers None (wire s reads writes) x.result (wire t (reads ++ x.read) (writes ++ x.wrote))

-- one that can't be read at all is let go
abbrev pub IsLetGo : {S : Type 0} → S → Talk → S → Type 0
IsLetGo s x t = (x.read ≡ []) × (x.wrote ≡ []) × (x.result ≡ Err (Fault ReadFailed)) × (t ≡ s)

-- connections in turn, each from the state that the one before left
abbrev pub AreServed : {S : Type 0} → Answers S → S → List Talk → S → Type 0
AreServed answers s [] t = t ≡ s
AreServed {S} answers s (x ∷ xs) t = (u : S) × (IsTalk answers s x u ⊎ IsLetGo s x u) × AreServed answers u xs t

-- so many connections are served, or fewer where one can't be accepted, or where one can't be settled
abbrev pub AreAllServed : {S : Type 0} → Answers S → ℕ → S → Result (Unit {0}) Outage → S → Type 0
AreAllServed answers count s (Ok u) t = (xs : List Talk) × AreServed answers s xs t × (length xs ≡ count)
AreAllServed answers count s (Err outage.Broken) t = (xs : List Talk) × AreServed answers s xs t × (length xs < count)
AreAllServed {S} answers count s (Err (outage.Unsettled why)) t =
    (xs : List Talk) × (u : S) × (x : Talk) × AreServed answers s xs u × IsTalk answers u x t × (x.result ≡ Err (Unsettled why)) × (length xs < count)

-- ---- what an opening may find
-- behind one connection
abbrev pub IsFoundBehindTalk : {S : Type 0} → Answers S → S → Talk → S → S → Type 0
IsFoundBehindTalk answers s x t found =
    (reads writes : List Transfer) × IsFound answers (wire s reads writes) x.result (wire t (reads ++ x.read) (writes ++ x.wrote)) found

-- one connection is served or let go, and where an opening found the state before alone, it finds what is behind it
pub record IsTalkKept {H S : Type 0} (state : H → S) (finds : H → S → Type 0) (answers : Answers S) (s : H) (x : Talk) (t : H) : Type 0 where
  pub served : IsTalk answers (state s) x (state t) ⊎ IsLetGo (state s) x (state t)
  pub found : FindsOnly finds s (state s) → (f : S) → finds t f → IsFoundBehindTalk answers (state s) x (state t) f

-- the state at the end, or what is behind the connection that couldn't be settled
abbrev pub IsFoundBehindAll : {S : Type 0} → Answers S → S → Result (Unit {0}) Outage → S → S → Type 0
IsFoundBehindAll answers s (Ok u) t f = f ≡ t
IsFoundBehindAll answers s (Err outage.Broken) t f = f ≡ t
IsFoundBehindAll {S} answers s (Err (outage.Unsettled why)) t f =
    (xs : List Talk) × (u : S) × (x : Talk) × AreServed answers s xs u × IsTalk answers u x t × IsFoundBehindTalk answers u x t f

-- ---- their events
-- All that was read on a connection is its stream, and what was written is a first part of what it was to be sent; it is
-- all of it where the connection ended without a fault.
pub record Carries (stream sent : Text) (x : Talk) : Type 0 where
  pub heard : stream ≡ transferred_bytes x.read
  pub unwritten : Text
  pub told : sent ≡ transferred_bytes x.wrote ++ unwritten
  pub whole : IsOk x.result → unwritten ≡ []

-- the connections are numbered in the order in which they came
abbrev pub CarryAll : ℕ → List Event → List Talk → Type 0
CarryAll n es [] = ⊤
CarryAll n es (x ∷ xs) = Carries (stream_of n es) (sent_to n es) x × CarryAll (n + 1) es xs
