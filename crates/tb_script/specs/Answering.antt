-- What a line is answered, and the state that it leaves.
use Rattle.std.specs.Prelude.{ℕ, Bool, List, [], ◌∷◌, ◌++◌, ◌&&◌, ◌==◌, Option, Some, None, Result, Ok, Err, if◌then◌else◌, length, codes, nat_le}
use Rattle.std.specs.List.{filter_map}
use Rattle.std.specs.Str.{is_utf8}
use Rattle.tb_calls.specs.declared.call.Call.{Call}
use Rattle.tb_calls.specs.declared.view.View.{View}
use Rattle.tb_calls.specs.declared.view.View.TheVariants.{Listing, Export, Todo, One, People, History, HistoryFrom, HistoryOf, Me}
use Rattle.tb_calls.specs.Call.{State, once, plain, reply, opening}
use Rattle.tb_desk.specs.Viewing.{shown_in}
use Rattle.tb_calls.specs.declared.reply.Reply.{Reply}
use Rattle.tb_script.specs.declared.asked.Asked.{Asked}
use Rattle.tb_script.specs.declared.asked.Asked.TheVariants as asks
use Rattle.tb_script.specs.declared.line_fault.Unreadable.{Unreadable}
use Rattle.tb_script.specs.declared.line_fault.Unreadable.TheVariants.{BadLine}
use Rattle.tb_script.specs.Lines.{Answered}
use Rattle.tb_script.specs.Reading.{asked}
use Rattle.tb_script.specs.Replies.{reply_text, unreadable_text}
use Rattle.tb_task.specs.Limits.{longest_body}

-- the state in which a script begins
abbrev pub first_state : State
first_state = opening (codes "root") (codes "root-key-1")

-- a line is text of at most 1,048,576 bytes
-- Rule: a line is UTF-8 of 1,048,576 bytes at most. Refused as BadLine. Tried by scripts.
abbrev pub is_readable : List ℕ → Bool
is_readable line = nat_le (length line) longest_body && is_utf8 line

-- what a line asks, if it can be read
unfoldable pub request_of : List ℕ → Result Asked Unreadable
request_of line = if is_readable line then asked line else Err BadLine

-- one task, people, histories and boards are shown on a line of their own
abbrev pub accepted_text : View → List ℕ → List ℕ
accepted_text (Listing n) body = body
accepted_text (Export n) body = body
accepted_text (Todo n) body = body
accepted_text (One n id) body = body ++ 10 ∷ []
accepted_text (People n) body = body ++ 10 ∷ []
accepted_text (History n) body = body ++ 10 ∷ []
accepted_text (HistoryFrom n from) body = body ++ 10 ∷ []
accepted_text (HistoryOf n id) body = body ++ 10 ∷ []
accepted_text Me body = body ++ 10 ∷ []

-- a view's text, or the reply that refuses it
abbrev pub view_text : View → Reply → List ℕ
view_text v r = if r.number == 0 then accepted_text v r.body else reply_text r

-- a call counts once, and a view changes nothing
unfoldable pub carried_out : State → Asked → Answered State
carried_out s (asks.Call c) =
    record { state = plain s (once s (c ∷ [])); text = reply_text (reply s [] c) }
carried_out s (asks.View l) =
    record { state = s; text = view_text l.view (shown_in s l.member l.key l.view l.at) }

-- a line that can't be read changes nothing
abbrev pub answered : State → Result Asked Unreadable → Answered State
answered s (Ok a) = carried_out s a
answered s (Err fault) = record { state = s; text = unreadable_text fault }

-- an empty line is skipped
unfoldable pub answer : State → List ℕ → Answered State
answer s line = if length line == 0 then record { state = s; text = [] }
    else answered s (request_of line)

-- the call that is asked for, if it is one
abbrev pub call_asked : Result Asked Unreadable → Option Call
call_asked (Ok (asks.Call c)) = Some c
call_asked (Ok (asks.View l)) = None
call_asked (Err fault) = None

-- the calls of lines, in order
abbrev pub calls_of : List (List ℕ) → List Call
calls_of lines = filter_map (λ line. call_asked (request_of line)) lines
