-- What the reply to an export makes of an order whose words hold places.
use Rattle.std.specs.Prelude.{◌≡◌, ◌≢◌, ◌⊎◌, ℕ, List, [], ◌∷◌, ◌++◌, codes, decimal, Option, Some, None}
use Rattle.std.specs.Fmt.{◌++?◌, debug_str}
use Rattle.std.specs.Io.KnownBytes.{Appends}
use Rattle.tb_client.specs.Request.{Text}
use Rattle.tb_client.specs.Places.{named_words, task_at, tasks_in}
use Rattle.tb_client.specs.declared.answer.Reply.{Reply}
use Rattle.tb_client.specs.declared.places.BoardTask.{BoardTask}
use Rattle.tb_command_line.specs.declared.order.SendOrder.{SendOrder}
use Rattle.tb_orders.specs.declared.ending.Ending.{Ending}
use Rattle.tb_orders.specs.declared.ending.Ending.TheVariants.{Refused}
use Rattle.tb_program.specs.declared.fault.Fault.{Fault}
use Rattle.tb_program.specs.declared.fault.Fault.TheVariants.{Memory, NoAnswer, WriteFailed}
use Rattle.tb_values.specs.Appends.{AppendsFront}

-- ---- what is told of the places

-- `taskboard: P is "D"` on a line; it says nothing of a description that isn't of ASCII alone
abbrev pub place_line : ℕ → Option BoardTask → Option Text
place_line place None = Some []
place_line place (Some task) =
    Some (codes "taskboard: ") ++? Some (decimal place) ++? Some (codes " is ")
    ++? debug_str task.description ++? Some (10 ∷ [])

abbrev pub places_text : List BoardTask → List ℕ → Option Text
places_text tasks [] = Some []
places_text tasks (place ∷ places) =
    place_line place (task_at tasks place) ++? places_text tasks places

-- ---- what the reply is

-- the board's tasks, whose identifiers stand in the words from now on in place of their places
pub record IsNamedBy (reply : Reply) (order named : SendOrder) : Type 0 where
  pub tasks : List BoardTask
  pub words : List Text
  pub accepted : reply.status ≡ 200
  pub read : tasks_in reply.body ≡ Some tasks
  pub found : named_words tasks order.words ≡ Some words
  pub is : named ≡ record order { words = words }

-- as a server refuses a call to a task that isn't there
abbrev pub no_task : Text
no_task = codes "{\"name\":\"NoTask\",\"refused\":5}"

-- the board's tasks, and it has none on a place
pub record HasNoTask (words : List Text) (reply : Reply) : Type 0 where
  pub tasks : List BoardTask
  pub accepted : reply.status ≡ 200
  pub read : tasks_in reply.body ≡ Some tasks
  pub missing : named_words tasks words ≡ None

-- the words aren't sent, and this is told in place of a reply to them
abbrev pub IsRefusal : List Text → Reply → Text → Type 0
IsRefusal words reply text =
    ((reply.status ≢ 200) × (text ≡ reply.body)) ⊎ (HasNoTask words reply × (text ≡ no_task))

-- ---- what is printed

module _ {W : Type 0} (contents : W → Option Text) where
  abbrev pub IsRefused : List Text → Reply → W → W → Ending → Type 0
  IsRefused words reply before after ending =
      (text : Text) × IsRefusal words reply text
      × Appends (contents before) (contents after) (text ++ 10 ∷ []) × (ending ≡ Refused)

  -- why there is no order to send, and no ending
  abbrev pub IsUnread : List Text → Reply → W → W → Fault → Type 0
  IsUnread words reply before after NoAnswer =
      (reply.status ≡ 200) × (tasks_in reply.body ≡ None) × (after ≡ before)
  IsUnread words reply before after WriteFailed =
      (text : Text) × IsRefusal words reply text
      × AppendsFront (contents before) (contents after) (text ++ 10 ∷ [])
  IsUnread words reply before after Memory = after ≡ before
  IsUnread words reply before after _ = ⊥
