-- What a socket says of its connection.
use Rattle.std.specs.Prelude.{Bool, true, false, not, ◌||◌, Option, Some, None}
use Rattle.network.specs.Clients.{is_absent}
use Rattle.network.specs.declared.clients.Client.{Client}
use Rattle.network.specs.declared.clients.Client.TheVariants.{Absent}
use Rattle.sockets.specs.declared.rest.Rest.{Rest}
use Rattle.sockets.specs.declared.socket.Socket.{Socket}
use Rattle.sockets.specs.declared.status.Status.{Status}

-- the client of the connection; one whose connection is over was let go
abbrev pub client_in : Option Socket → Client
client_in None = Absent
client_in (Some s) = s.status.client

-- there is a socket, and the connection isn't over
abbrev pub is_open : Option Socket → Bool
is_open None = false
is_open (Some s) = not (is_absent s.status.client)

-- .. and it stands in the queue of those that are told next
abbrev pub is_queued : Option Socket → Bool
is_queued None = false
is_queued (Some s) = s.is_queued

-- .. and it doesn't stand there
abbrev pub is_unqueued : Option Socket → Bool
is_unqueued None = false
is_unqueued (Some s) = not s.is_queued

-- .. it gave way, and no write was tried since
abbrev pub gives_way_in : Option Socket → Bool
gives_way_in None = false
gives_way_in (Some s) = s.status.gives_way

-- .. and its rest
abbrev pub rest_in : Option Socket → Option Rest
rest_in None = None
rest_in (Some s) = s.status.rest

-- its last read, or (`true`) its last write, would have waited, and it wasn't told ready since; or it
-- is put off
abbrev pub waits : Bool → Status → Bool
waits false s = s.waits_to_read || s.is_put_off
waits true s = s.waits_to_write || s.is_put_off

-- it will be told ready, once it can be read, or (`true`) written; nothing is owed to a connection
-- that isn't open
abbrev pub is_due : Bool → Option Socket → Bool
is_due d None = true
is_due d (Some s) = s.is_queued || (is_absent s.status.client || waits d s.status)

-- ---- what changes a socket
-- another thing is known of it
abbrev pub with_status : Status → Socket → Socket
with_status status s = record { stream = s.stream; status = status; is_queued = s.is_queued }

-- it rests so, if it does
abbrev pub with_rest : Option Rest → Socket → Socket
with_rest rest s = record { stream = s.stream; status = record s.status { rest = rest }; is_queued = s.is_queued }

-- it gives way
abbrev pub as_giving_way : Socket → Socket
as_giving_way s = record { stream = s.stream; status = record s.status { gives_way = true }; is_queued = s.is_queued }

-- it is put into the queue
abbrev pub as_queued : Socket → Socket
as_queued s = record { stream = s.stream; status = s.status; is_queued = true }

-- a connection that is told ready waits for nothing
abbrev pub told : Status → Status
told s = record s { waits_to_read = false; waits_to_write = false; is_put_off = false }

-- it is taken out of the queue, to be told ready
abbrev pub as_told : Socket → Socket
as_told s = record { stream = s.stream; status = told s.status; is_queued = false }
