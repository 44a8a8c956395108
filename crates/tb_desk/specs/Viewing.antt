-- What a view shows.
use Rattle.std.specs.Prelude.{ℕ, List, Option, Some, None, Result, Ok, Err, find, if◌then◌else◌, map}
use Rattle.tb_task.specs.declared.task.Task.{Task}
use Rattle.tb_json.specs.ListText.{list_text}
use Rattle.tb_json.specs.Writing.{shown_text}
use Rattle.tb_board.specs.declared.board.Board.{Board}
use Rattle.tb_board.specs.declared.world.World.{World}
use Rattle.tb_core.specs.declared.look.SeenBoard.{SeenBoard}
use Rattle.tb_core.specs.declared.refusal.Refusal.{Refusal}
use Rattle.tb_core.specs.declared.refusal.Refusal.TheVariants.{NoBoard, NoTask}
use Rattle.tb_core.specs.Apply.{board_for}
use Rattle.tb_board.specs.Tasks.{has_id, ids, place_in}
use Rattle.tb_board.specs.World.{has_key, key_of, number_of}
use Rattle.tb_report.specs.Lists.{listing}
use Rattle.tb_report.specs.Showing.{shown, shown_task}
use Rattle.tb_todotxt.specs.FileTexts.{file_text}
use Rattle.tb_history.specs.declared.page.Which.{Which}
use Rattle.tb_history.specs.declared.page.Which.TheVariants as which
use Rattle.tb_history.specs.Texts.{history_text}
use Rattle.tb_calls.specs.declared.reply.Reply.{Reply}
use Rattle.tb_calls.specs.declared.role_bodies.PersonRole.{PersonRole}
use Rattle.tb_calls.specs.RoleBodies.{me_text, people_text}
use Rattle.tb_calls.specs.declared.view.View.{View}
use Rattle.tb_calls.specs.declared.view.View.TheVariants.{Export, History, HistoryFrom, HistoryOf, Listing, Me, One, People, Todo}
use Rattle.tb_calls.specs.Call.{State, unknown_caller}
use Rattle.tb_calls.specs.History.{history_seen}
use Rattle.tb_calls.specs.Roles.{boards_of, people_for}
use Rattle.tb_calls.specs.Reply.{reply_of}

-- the JSON of all tasks
abbrev pub export_text : Board → ℕ → List ℕ
export_text b m = list_text (map shown_text (shown b m))

-- the JSON of one task
abbrev pub one_text : Board → Option Task → ℕ → Result (List ℕ) Refusal
one_text b None m = Err NoTask
one_text b (Some t) m = Ok (shown_text (shown_task b m t))

-- the JSON of a page of a board's history
abbrev pub page_text : State → Board → Which → List ℕ
page_text s b which = history_text b.number (history_seen s b which)

-- the JSON of the last entries about the task at a place
abbrev pub page_about : State → Board → Option ℕ → Result (List ℕ) Refusal
page_about s b None = Err NoTask
page_about s b (Some place) = Ok (page_text s b (which.OfPlace place))

-- what one looks at on a board; a board that isn't there, or on which the person has no role, isn't shown
-- Rule: a view asks for any role on the board. Refused as NoBoard. Tried by me_and_people.
abbrev pub seen_on : Option SeenBoard → (Board → Result (List ℕ) Refusal) → Result (List ℕ) Refusal
seen_on None shows = Err NoBoard
seen_on (Some seen) shows = shows seen.board

abbrev pub on_board : World → List ℕ → ℕ → (Board → Result (List ℕ) Refusal)
    → Result (List ℕ) Refusal
on_board w name n shows = seen_on (board_for w (number_of w name) (Some n)) shows

-- nobody has a role on a board that isn't there
abbrev pub people_shown : ℕ → Option (List PersonRole) → Result (List ℕ) Refusal
people_shown n None = Err NoBoard
people_shown n (Some people) = Ok (people_text n people)

-- what a view shows a person at a moment
-- Rule: a board's history is shown to everyone who has a role on it. Refused as NoBoard. Tried by history_of_task.
abbrev pub view_of : State → List ℕ → View → ℕ → Result (List ℕ) Refusal
view_of s name (Listing n) m = on_board s.world name n (λ b. Ok (listing b m))
view_of s name (Export n) m = on_board s.world name n (λ b. Ok (export_text b m))
view_of s name (Todo n) m = on_board s.world name n (λ b. Ok (file_text (shown b m)))
view_of s name (One n id) m =
    on_board s.world name n (λ b. one_text b (find (has_id id) b.tasks) m)
view_of s name (People n) m = people_shown n (people_for s.world name n)
view_of s name (History n) m = on_board s.world name n (λ b. Ok (page_text s b which.Last))
view_of s name (HistoryFrom n from) m =
    on_board s.world name n (λ b. Ok (page_text s b (which.From from)))
view_of s name (HistoryOf n id) m =
    on_board s.world name n (λ b. page_about s b (place_in (ids b.tasks) id))
view_of s name Me m = Ok (me_text name (boards_of s.world name))

unfoldable pub view_reply : Result (List ℕ) Refusal → Reply
view_reply (Ok body) = record { number = 0; status = 200; body = body }
view_reply (Err refusal) = reply_of (Err refusal)

-- what a view of a person with a key is told in a state at a moment
abbrev pub shown_in : State → List ℕ → List ℕ → View → ℕ → Reply
shown_in s name key v m =
    if has_key (key_of s.world name) key then view_reply (view_of s name v m)
    else unknown_caller
