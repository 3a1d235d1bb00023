-- What holds again once a connection that was taken out of the queue was seen to.
use Rattle.std.specs.Prelude.{IfSome}
use Rattle.std.proofs.Common.{◌≡◌, ◌≢◌, ℕ, Bool, true, false, not, Some, None, Option, option_map, refl, sym, ◌∙◌, ap, subst}
use Rattle.sockets.specs.declared.rest.Rest.{Rest}
use Rattle.sockets.specs.declared.socket.Socket.{Socket}
use Rattle.sockets.specs.declared.supply.Supply.TheVariants.{Drained}
use Rattle.sockets.specs.declared.table.Table.{Table}
use Rattle.network.specs.Clients.{is_absent}
use Rattle.network.specs.declared.clients.Client.{Client}
use Rattle.network.specs.declared.clients.Client.TheVariants.{Absent, Present, Failed}
use Rattle.sockets.specs.Socket.{client_in, is_open, is_due, is_queued, rest_in, with_rest, as_told, as_queued}
use Rattle.sockets.specs.Table.{socket_at, OthersStay, OnlyRests, client_at, IsDue, StaysDue, KeepsClients}
use Rattle.sockets.proofs.Queues.{same, same_is, apart_from_same}

told_keeps_client : (o : Option Socket) → client_in (option_map as_told o) ≡ client_in o
told_keeps_client None = refl
told_keeps_client (Some s) = refl

-- what isn't open has no client
pub absent_where_closed : (o : Option Socket) → is_open o ≡ false → client_in o ≡ Absent
absent_where_closed None e = refl
absent_where_closed (Some s) e = by s.status.client e
  where
    by : (c : Client) → not (is_absent c) ≡ false → c ≡ Absent
    by Absent e = refl
    by Present e = cc
    by Failed e = cc

-- who was due is due, where the one that was taken out is
pub due_again : (t u v : Table) (id : ℕ) → OthersStay id t u → StaysDue u v → ((d : Bool) → IsDue v d id) → StaysDue t v
due_again t u v id others stays own k d was = by (same k id) refl
  where
    by : (b : Bool) → same k id ≡ b → IsDue v d k
    by true e = subst (λ j. IsDue v d j) (sym (same_is k id e)) (own d)
    by false e = stays k d (ap (is_due d) (others k (apart_from_same k id e)) ∙ was)

pub closed_alike : (o p : Option Socket) → is_open o ≡ false → is_open p ≡ false → client_in p ≡ client_in o
closed_alike o p e f = absent_where_closed p f ∙ sym (absent_where_closed o e)

-- who is put into the queue keeps its client
pub queued_keeps : (t u : Table) (id : ℕ) → OthersStay id t u → socket_at u id ≡ option_map as_queued (socket_at t id) → KeepsClients t u
queued_keeps t u id others queued k = by (same k id) refl
  where
    keeps : (o : Option Socket) → client_in (option_map as_queued o) ≡ client_in o
    keeps None = refl
    keeps (Some s) = refl

    by : (b : Bool) → same k id ≡ b → client_at u k ≡ client_at t k
    by true e =
        let own : client_at u id ≡ client_at t id = ap client_in queued ∙ keeps (socket_at t id) in
        subst (λ j. client_at u j ≡ client_at t j) (sym (same_is k id e)) own
    by false e = ap client_in (others k (apart_from_same k id e))

pub queued_where_undrained : (o p : Option Socket) → p ≡ option_map as_queued o → IfSome o (λ s. s.status.supply ≢ Drained → is_queued p ≡ true)
queued_where_undrained None p e = tt
queued_where_undrained (Some s) p e = λ ne. ap is_queued e

-- a connection of which another rest is known
pub rests_only : (t u : Table) (id : ℕ) (r : Option Rest) → socket_at u id ≡ option_map (with_rest r) (socket_at t id) → OthersStay id t u → OnlyRests id t u
rests_only t u id r own others = record {
  own = ap (λ o. option_map (with_rest None) o) own ∙ again (socket_at t id);
  others = others;
}
  where
    again : (o : Option Socket) → option_map (with_rest None) (option_map (with_rest r) o) ≡ option_map (with_rest None) o
    again None = refl
    again (Some s) = refl

pub no_rest : (o p : Option Socket) → p ≡ option_map (with_rest None) o → rest_in p ≡ None
no_rest None p e = ap rest_in e
no_rest (Some s) p e = ap rest_in e

-- each client is as it was
pub kept_again : (t u v : Table) (id : ℕ) → OthersStay id t u → socket_at u id ≡ option_map as_told (socket_at t id) → KeepsClients u v → KeepsClients t v
kept_again t u v id others told keeps k = keeps k ∙ by (same k id) refl
  where
    by : (b : Bool) → same k id ≡ b → client_at u k ≡ client_at t k
    by true e =
        let taken : client_at u id ≡ client_at t id = ap client_in told ∙ told_keeps_client (socket_at t id) in
        subst (λ j. client_at u j ≡ client_at t j) (sym (same_is k id e)) taken
    by false e = ap client_in (others k (apart_from_same k id e))
