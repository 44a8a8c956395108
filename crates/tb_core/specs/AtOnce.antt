-- What a command makes of a world where no board looks ahead and nobody is a reader: the first text, which the newer one has where each
-- board looks one ahead.
use Rattle.std.specs.Prelude.{ℕ, List, Option, Some, None, Result, Ok, Err}
use Rattle.tb_board.specs.declared.board.Board.{Board}
use Rattle.tb_board.specs.declared.world.Role.{Role}
use Rattle.tb_board.specs.declared.world.World.{World}
use Rattle.tb_board.specs.Board.{wake}
use Rattle.tb_sweep.specs.AtOnce.{added_at_once, more_at_once, sweep_at_once}
use Rattle.tb_core.specs.declared.command.Answer.TheVariants.{OnBoard}
use Rattle.tb_core.specs.declared.command.BoardAnswer.{BoardAnswer}
use Rattle.tb_core.specs.declared.command.Command.{Command}
use Rattle.tb_core.specs.declared.command.Command.TheVariants as command
use Rattle.tb_core.specs.declared.command.BoardCommand.{BoardCommand}
use Rattle.tb_core.specs.declared.command.BoardCommand.TheVariants.{Add, OnTask, Modify, Depend, Undepend, SetAhead, Retitle, Sweep, Import}
use Rattle.tb_core.specs.declared.command.AnswerDetail.{AnswerDetail}
use Rattle.tb_core.specs.declared.command.AnswerDetail.TheVariants.{Swept}
use Rattle.tb_core.specs.declared.look.Seen.{Seen}
use Rattle.tb_core.specs.declared.look.SeenBoard.{SeenBoard}
use Rattle.tb_core.specs.declared.refusal.Refusal.{Refusal}
use Rattle.tb_core.specs.declared.refusal.Refusal.TheVariants.{UnknownCaller, NoBoard}
use Rattle.tb_core.specs.Apply.{applied, judged, role_refusals, seen_of, with_role}
use Rattle.tb_core.specs.Outcomes.{Outcome, given}
use Rattle.tb_core.specs.Owners.{person_number}
use Rattle.tb_core.specs.People.{new_board, new_person}
use Rattle.tb_core.specs.Refusals.{least}

-- the answer about a board that the sweep follows
abbrev pub answer_at_once : Board → ℕ → AnswerDetail → BoardAnswer
answer_at_once b m detail =
    record {
      board = b.number;
      added = added_at_once b m;
      more = more_at_once (sweep_at_once b m) m;
      detail = detail;
    }

-- the sweep follows a command that is accepted
abbrev pub answered_at_once : ℕ → Result (Board × AnswerDetail) Refusal
    → Result (Board × BoardAnswer) Refusal
answered_at_once m (Ok r) = Ok (sweep_at_once r.0 m, answer_at_once r.0 m r.1)
answered_at_once m (Err refusal) = Err refusal

-- a command is judged on the board that is awake, and the sweep follows
abbrev pub outcome_at_once : Board → BoardCommand → ℕ → Result (Board × BoardAnswer) Refusal
outcome_at_once b c m = answered_at_once m (judged (wake b m) c m)

-- who isn't known is refused, and then who has no role on the board, or where there is none
abbrev pub decided_at_once : Option ℕ → Option SeenBoard → BoardCommand → ℕ
    → Result (Board × BoardAnswer) Refusal
decided_at_once None b c m = Err UnknownCaller
decided_at_once (Some caller) None c m = Err NoBoard
decided_at_once (Some caller) (Some b) c m = outcome_at_once b.board c m

abbrev pub on_board_at_once : World → Seen → BoardCommand → ℕ → Outcome
on_board_at_once w seen c m = applied w (decided_at_once seen.caller seen.board c m)

-- the role is set, and the sweep follows
abbrev pub role_at_once : World → Seen → Option ℕ → Option SeenBoard → Option Role → ℕ → Outcome
role_at_once w seen None b role m = record { world = w; answer = Err UnknownCaller }
role_at_once w seen (Some caller) None role m = record { world = w; answer = Err NoBoard }
role_at_once w seen (Some caller) (Some b) role m =
    given (least (role_refusals seen b role)) w
    (with_role w (sweep_at_once b.board m) (person_number seen.other) role)
    (OnBoard (answer_at_once b.board m Swept))

-- a command on a board; the text has none by which a board looks ahead or gets another title
abbrev pub command_at_once : World → Seen → BoardCommand → ℕ → Outcome
command_at_once w seen (Add i) m = on_board_at_once w seen (Add i) m
command_at_once w seen (OnTask id a) m = on_board_at_once w seen (OnTask id a) m
command_at_once w seen (Modify id edits) m = on_board_at_once w seen (Modify id edits) m
command_at_once w seen (Depend id on) m = on_board_at_once w seen (Depend id on) m
command_at_once w seen (Undepend id on) m = on_board_at_once w seen (Undepend id on) m
command_at_once w seen (SetAhead ahead) m = record { world = w; answer = Err NoBoard }
command_at_once w seen (Retitle title) m = record { world = w; answer = Err NoBoard }
command_at_once w seen Sweep m = on_board_at_once w seen Sweep m
command_at_once w seen (Import tasks) m = on_board_at_once w seen (Import tasks) m

-- a command at a moment, by what it looks at
abbrev pub seen_at_once : World → Seen → Command → ℕ → Outcome
seen_at_once w seen (command.NewPerson name key) m = new_person w seen seen.caller name key
seen_at_once w seen (command.NewBoard title) m = new_board w seen seen.caller title
seen_at_once w seen (command.OwnKey old new) m = record { world = w; answer = Err UnknownCaller }
seen_at_once w seen (command.SetKey name key) m =
    record { world = w; answer = Err UnknownCaller }
seen_at_once w seen (command.SetRole n name role) m =
    role_at_once w seen seen.caller seen.board role m
seen_at_once w seen (command.Take n) m = record { world = w; answer = Err UnknownCaller }
seen_at_once w seen (command.OnBoard n c) m = command_at_once w seen c m

-- a person's command at a moment
abbrev pub apply_at_once : World → List ℕ → Command → ℕ → Outcome
apply_at_once w name c m = seen_at_once w (seen_of w name c) c m
