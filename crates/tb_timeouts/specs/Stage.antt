-- The stages of a connection.
use Rattle.std.specs.Prelude.{ℕ, ◌+◌, ◌-◌, ◌^◌, Bool, true, false, ◌||◌, nat_le, Option, Some, None, min}
use Rattle.std.specs.Option.{option_map_or}
use Rattle.tb_timeouts.specs.declared.limits.Limits.{Limits}
use Rattle.tb_timeouts.specs.declared.stage.Need.{Need}
use Rattle.tb_timeouts.specs.declared.stage.Need.TheVariants.{Message, RestOfHead, RestOfBody, Taker, End}
use Rattle.tb_timeouts.specs.declared.stage.Stage.{Stage}
use Rattle.tb_timeouts.specs.declared.stage.Stage.TheVariants.{Vacant, Idle, Heading, Reading, Waiting, Answering, Closing}

-- A stage goes on while the same is needed, and a message's time is counted from its first byte. Any other begins now.
abbrev pub next_stage : ℕ → Need → Stage → Stage
next_stage now Message (Idle since) = Idle since
next_stage now Message _ = Idle now
next_stage now RestOfHead (Heading begun) = Heading begun
next_stage now RestOfHead _ = Heading now
next_stage now RestOfBody (Heading begun) = Reading begun
next_stage now RestOfBody (Reading begun) = Reading begun
next_stage now RestOfBody _ = Reading now
next_stage now Taker (Answering since taken) = Answering since taken
next_stage now Taker _ = Answering now now
next_stage now End (Closing since reads) = Closing since reads
next_stage now End _ = Closing now 0

-- its message may be answered later; the time it waits is counted from when it was whole
abbrev pub waiting_stage : ℕ → Stage → Stage
waiting_stage now (Waiting since) = Waiting since
waiting_stage now _ = Waiting now

-- a part of the answer was taken now
abbrev pub taken_stage : ℕ → Stage → Stage
taken_stage now (Answering since taken) = Answering since now
taken_stage now stage = stage

-- one more read was thrown away; a count of 32 bits stays at its end
abbrev pub read_stage : Stage → Stage
read_stage (Closing since reads) = Closing since (min (reads + 1) (2 ^ 32 - 1))
read_stage stage = stage

-- the moment at which the connection has stayed too long
-- Rule: a connection that stays too long is closed. Tried by beside.sh.
abbrev pub end_of : Limits → Stage → Option ℕ
end_of limits Vacant = None
end_of limits (Idle since) = Some (since + limits.idle)
end_of limits (Heading begun) = Some (begun + limits.head)
end_of limits (Reading begun) = Some (begun + limits.message)
end_of limits (Waiting since) = Some (since + limits.idle)
end_of limits (Answering since taken) = Some (min (since + limits.answer) (taken + limits.part))
end_of limits (Closing since reads) = Some (since + limits.closing)

-- so many reads were thrown away behind the last answer that there are no more
abbrev pub has_read_enough : Limits → Stage → Bool
has_read_enough limits (Closing since reads) = nat_le limits.closing_reads reads
has_read_enough limits stage = false

-- it has stayed too long, or sent too much behind the last answer
abbrev pub is_over : Limits → ℕ → Stage → Bool
is_over limits now stage =
    has_read_enough limits stage
    || option_map_or (λ end. nat_le end now) (end_of limits stage) false

-- no connection is in this place
abbrev pub is_vacant : Stage → Bool
is_vacant Vacant = true
is_vacant stage = false

-- the bytes that come are of a message
abbrev pub takes_bytes : Stage → Bool
takes_bytes Vacant = false
takes_bytes (Idle since) = true
takes_bytes (Heading begun) = true
takes_bytes (Reading begun) = true
takes_bytes (Waiting since) = true
takes_bytes (Answering since taken) = false
takes_bytes (Closing since reads) = false

-- since when it is between two messages
abbrev pub idle_since : Stage → Option ℕ
idle_since (Idle since) = Some since
idle_since stage = None

-- when the message was begun that isn't whole
abbrev pub begun_at : Stage → Option ℕ
begun_at (Heading begun) = Some begun
begun_at (Reading begun) = Some begun
begun_at stage = None

-- since when its message waits to be answered
abbrev pub waiting_since : Stage → Option ℕ
waiting_since (Waiting since) = Some since
waiting_since stage = None

-- when a part of its answer was taken last, or when it was made
abbrev pub taken_at : Stage → Option ℕ
taken_at (Answering since taken) = Some taken
taken_at stage = None
