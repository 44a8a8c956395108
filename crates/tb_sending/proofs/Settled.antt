-- An order that isn't sent, behind a change that was settled.
use Rattle.std.proofs.Common.{◌≡◌, List, Option, Result, Ok, Err, IfErr, inl, subst}
use Rattle.tb_client.specs.Asking.{Event}
use Rattle.tb_client.specs.Request.{Text}
use Rattle.tb_command_line.specs.declared.order.SendOrder.{SendOrder}
use Rattle.tb_orders.specs.declared.ending.Ending.{Ending}
use Rattle.tb_program.specs.declared.fault.Fault.{Fault}
use Rattle.tb_sending.specs.Changing.{IsSettled, SendsNot}
use Rattle.tb_sending.specs.Sending.{Fails}

module _ {L W : Type 0} (follows : List Event → L → L → Type 0) (contents : W → Option Text) where
  pub sends_not : (r : Result Ending Fault) (order ready : SendOrder) (old middle new : L) (before between after : W)
      → IsSettled follows order old middle → between ≡ before
      → IfErr r (Fails follows contents order ready middle new between after) → IfErr r (SendsNot follows contents order ready old new before after)
  sends_not (Ok end) order ready old middle new before between after settled still fails = tt
  sends_not (Err fault) order ready old middle new before between after settled still fails =
      inl (middle, settled, subst (λ w. Fails follows contents order ready middle new w after fault) still fails)
