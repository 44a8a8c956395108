-- What views ask for, and what replies come to on standard output.
use Rattle.std.specs.Prelude.{◌≡◌, ℕ, ◌==◌, List, [], ◌∷◌, ◌++◌, Result, Ok, Err, if◌then◌else◌}
use Rattle.tb_command_line.specs.declared.order.ViewKind.TheVariants as shows
use Rattle.tb_command_line.specs.declared.order.ViewOrder.{ViewOrder}
use Rattle.tb_command_line.specs.declared.order.ViewKind.{ViewKind}
use Rattle.tb_calls.specs.Call.{State}
use Rattle.tb_desk.specs.Viewing.{shown_in}
use Rattle.tb_calls.specs.declared.call.Call.{Call}
use Rattle.tb_calls.specs.declared.fault.KeepFault.{KeepFault}
use Rattle.tb_calls.specs.declared.fault.KeepFault.TheVariants as keep
use Rattle.tb_calls.specs.declared.view.View.{View}
use Rattle.tb_calls.specs.declared.view.View.TheVariants as view
use Rattle.tb_http.specs.declared.message.Message.{Message}
use Rattle.tb_orders.specs.declared.ending.Ending.{Ending}
use Rattle.tb_orders.specs.declared.ending.Ending.TheVariants.{Accepted, Refused}
use Rattle.tb_program.specs.declared.fault.Fault.{Fault}
use Rattle.tb_program.specs.declared.fault.Fault.TheVariants as fault
use Rattle.tb_calls.specs.declared.reply.Reply.{Reply}
use Rattle.tb_asking.specs.Asking.{asked_of}
use Rattle.tb_asking.specs.declared.asked.Asked.TheVariants as asked

-- ---- what is asked for

abbrev pub view_in : ViewKind → ℕ → View
view_in shows.Export board = view.Export board
view_in shows.Listing board = view.Listing board
view_in shows.Todo board = view.Todo board

abbrev pub view_of : ViewOrder → View
view_of order = view_in order.kind order.board

-- what a view's order is shown of a state at a moment
abbrev pub shown_by : State → ViewOrder → ℕ → Reply
shown_by s order at = shown_in s order.member order.key (view_of order) at

-- a message that came at a moment asks for a call
abbrev pub AsksFor : Message → ℕ → Call → Type 0
AsksFor message at call = asked_of message at ≡ Ok (asked.Call call)

-- ---- what comes of it

abbrev pub ending_of : Reply → Ending
ending_of reply = if reply.number == 0 then Accepted else Refused

-- a refusal stands on a line of its own
abbrev pub view_text : Reply → List ℕ
view_text reply = if reply.number == 0 then reply.body else reply.body ++ 10 ∷ []

abbrev pub line_text : Reply → List ℕ
line_text reply = reply.body ++ 10 ∷ []

-- how many calls an import has made: the one that it asks for stands too where its reply couldn't be written
abbrev pub calls_made : Result Ending Fault → ℕ
calls_made (Ok ending) = 1
calls_made (Err fault.WriteFailed) = 1
calls_made (Err other) = 0

abbrev pub fault_of_keep : KeepFault → Fault
fault_of_keep keep.Memory = fault.Memory
fault_of_keep keep.Store = fault.Store
