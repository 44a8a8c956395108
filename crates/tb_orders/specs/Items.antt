-- Which task of an import's text is in a wrong form, where an import failed for one.
use Rattle.std.specs.Prelude.{◌≡◌, ◌⊎◌, ℕ, ◌+◌, List, [], ◌∷◌, Option, Some, None, IfSome, Result, Ok, Err}
use Rattle.tb_asking.specs.Asking.{asked_of}
use Rattle.tb_asking.specs.declared.asked.Asked.{Asked}
use Rattle.tb_asking.specs.declared.rejection.Rejection.{Rejection}
use Rattle.tb_asking.specs.declared.rejection.Rejection.TheVariants.{Route, NoId, Body}
use Rattle.tb_asking.specs.declared.body_fault.BadBody.TheVariants.{Whole, Field, Item}
use Rattle.tb_command_line.specs.declared.order.ImportOrder.{ImportOrder}
use Rattle.tb_orders.specs.Lists.{IsCut}
use Rattle.tb_orders.specs.Message.{message_of}
use Rattle.tb_orders.specs.Running.{part_message}
use Rattle.tb_orders.specs.declared.ending.Ending.{Ending}
use Rattle.tb_orders.specs.declared.order_fault.BadItem.{BadItem}
use Rattle.tb_orders.specs.declared.order_fault.OrderFault.{OrderFault}
use Rattle.tb_program.specs.declared.fault.Fault.{Fault}

-- a fault with nothing known beside it
abbrev pub fault_alone : Fault → OrderFault
fault_alone fault = record { fault = fault; item = None }

-- how an order ended, by the fault alone
abbrev pub end_of : Result Ending OrderFault → Result Ending Fault
end_of (Ok ending) = Ok ending
end_of (Err failed) = Err failed.fault

-- the task for which a part of this number was rejected
abbrev pub item_of : ℕ → Rejection → Option BadItem
item_of part (Route fault) = None
item_of part NoId = None
item_of part (Body Whole) = None
item_of part (Body (Field name)) = None
item_of part (Body (Item at name)) = Some (record { part = part; at = at; member = name })

abbrev pub item_in : ℕ → Result Asked Rejection → Option BadItem
item_in part (Ok asked) = None
item_in part (Err rejection) = item_of part rejection

-- the text of an input is rejected for the task
pub record IsBadIn (order : ImportOrder) (input : Option (List ℕ)) (item : BadItem) : Type 0 where
  pub text : List ℕ
  pub at : ℕ
  pub whole : IfSome input (λ all. text ≡ all)
  pub is : item_in 1 (asked_of (message_of order text) at) ≡ Some item

-- one of the parts that are numbered behind so many is rejected for the task
abbrev pub IsBadBehind : ImportOrder → ℕ → List (List ℕ) → ℕ → BadItem → Type 0
IsBadBehind order before [] at item = ⊥
IsBadBehind order before (part ∷ parts) at item =
    (item_in (before + 1) (asked_of (part_message order (before + 1) part) at) ≡ Some item)
    ⊎ IsBadBehind order (before + 1) parts at item

-- one of the parts of an input is
pub record IsBadAmong (order : ImportOrder) (input : Option (List ℕ))
    (item : BadItem) : Type 0 where
  pub text : List ℕ
  pub parts : List (List ℕ)
  pub at : ℕ
  pub whole : IfSome input (λ all. text ≡ all)
  pub cut : IsCut order.kind text (Some parts)
  pub is : IsBadBehind order 0 parts at item
