-- What a connection comes to by what its socket told.
use Rattle.std.specs.Prelude.{ℕ, Bool, true, false, not, ◌&&◌, ◌||◌, nat_le}
use Rattle.std.specs.declared.io.ErrorKind.{ErrorKind}
use Rattle.std.specs.declared.io.ErrorKind.TheVariants.{WouldBlock, Interrupted}
use Rattle.tb_event_loop.specs.declared.connection.TheConstants.{PIECE}
use Rattle.tb_event_loop.specs.declared.connection.Connection.{Connection}
use Rattle.tb_event_loop.specs.declared.sockets.Told.{Told}
use Rattle.tb_rooms.specs.declared.holding.TheConstants.{STRANGER}

-- one that may be ready, since the first read and the first write tell
abbrev pub fresh : Connection
fresh = record {
  can_read = true;
  can_write = true;
  has_hung_up = false;
  has_ended = false;
  may_answer = false;
  is_gone = false;
  has_asked = false;
  due = 0;
  owner = STRANGER;
}

-- its message may be turned, as far as it was looked at
abbrev pub may_go : ℕ → Connection → Bool
may_go now connection = not connection.has_asked || nat_le connection.due now

-- the head of its message was looked at
abbrev pub asked : ℕ → ℕ → Connection → Connection
asked due owner connection =
    record connection { has_asked = true; due = due; owner = owner }

-- the next message is at the front
abbrev pub unasked : ℕ → Connection → Connection
unasked owner connection = record connection { has_asked = false; owner = owner }

-- the socket has bytes, and they are not of a message behind the one that is held
abbrev pub needs_bytes : Connection → Bool
needs_bytes connection =
    connection.can_read && not connection.may_answer && not connection.has_ended

-- what is held may be whole now; a read that came short took all that was there
abbrev pub with_bytes : ℕ → Connection → Connection
with_bytes count connection = record connection {
  may_answer = true;
  can_read = connection.can_read && (nat_le PIECE count || connection.has_hung_up);
}

-- it is kept only for a message that may be held
abbrev pub ended : Connection → Connection
ended connection = record connection {
  can_read = false;
  has_ended = true;
  is_gone = connection.is_gone || not connection.may_answer;
}

-- without a whole message it is kept only if more may come
abbrev pub short_of_bytes : Connection → Connection
short_of_bytes connection = record connection {
  may_answer = false;
  is_gone = connection.is_gone || connection.has_ended;
}

abbrev pub leaving : Connection → Connection
leaving connection = record connection { is_gone = true }

-- a read that would wait or that was cut short costs no connection its place
abbrev pub read_failed : ErrorKind → Connection → Connection
read_failed WouldBlock connection = record connection { can_read = false }
read_failed Interrupted connection = connection
read_failed _ connection = leaving connection

-- nor does such a write
abbrev pub write_failed : ErrorKind → Connection → Connection
write_failed WouldBlock connection = record connection { can_write = false }
write_failed Interrupted connection = connection
write_failed _ connection = leaving connection

-- what the system tells of a socket; of one that failed the next read or write tells
abbrev pub marked : Told → Connection → Connection
marked told connection = record connection {
  has_hung_up = connection.has_hung_up || told.is_read_closed;
  can_read = connection.can_read || told.is_readable || told.is_error || told.is_read_closed;
  can_write = connection.can_write || told.is_writable || told.is_error;
}
