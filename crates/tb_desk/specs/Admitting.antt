-- Which views are refused.
use Rattle.std.specs.Prelude.{ℕ, ◌==◌, List, Option, Some, None, Result, Ok, Err, if◌then◌else◌}
use Rattle.tb_board.specs.declared.world.Role.{Role}
use Rattle.tb_core.specs.declared.refusal.Refusal.{Refusal}
use Rattle.tb_core.specs.declared.refusal.Refusal.TheVariants.{NoBoard}
use Rattle.tb_calls.specs.declared.reply.Reply.{Reply}

-- why it is refused to show something
abbrev pub refusal_in : Result (List ℕ) Refusal → Option Refusal
refusal_in (Ok text) = None
refusal_in (Err refusal) = Some refusal

-- a board is shown to those who have a role on it
abbrev pub refusal_without : Option Role → Option Refusal
refusal_without None = Some NoBoard
refusal_without (Some role) = None

-- the reply to a view, where it is refused
-- Rule: a view is refused before a byte of it is written. Tried by export_rows.
abbrev pub admission : Reply → Option Reply
admission reply = if reply.number == 0 then None else Some reply
