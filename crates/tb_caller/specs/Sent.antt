-- What an order that is sent to a server comes to, over a line to that server.
use Rattle.std.specs.Prelude.{◌≡◌, ◌⊎◌, ℕ, List, Option}
use Rattle.tb_client.specs.Asking.{Event}
use Rattle.tb_command_line.specs.declared.order.SendOrder.{SendOrder}
use Rattle.tb_orders.specs.declared.ending.Ending.{Ending}
use Rattle.tb_program.specs.declared.fault.Fault.{Fault}
use Rattle.tb_program.specs.declared.fault.Fault.TheVariants.{Memory}
use Rattle.tb_sending.specs.Changing.{Sends, SendsNot}
use Rattle.tb_sending.specs.Lines.{IsLineTo}
use Rattle.tb_sending.specs.declared.server_line.ServerLine.{ServerLine}

module _ {M W : Type 0} (follows : List Event → ServerLine M → ServerLine M → Type 0)
    (contents : W → Option (List ℕ)) where
  -- the call or view was sent
  pub record IsSentOver (order : SendOrder) (before after : W) (ending : Ending) : Type 0 where
    pub ready : SendOrder
    pub machine : M
    pub old : ServerLine M
    pub new : ServerLine M
    pub to : IsLineTo order machine old
    pub comes : Sends follows contents order ready old new before after ending

  -- it was sent up to the fault
  pub record IsCutOver (order : SendOrder) (before after : W) (told : Fault) : Type 0 where
    pub ready : SendOrder
    pub machine : M
    pub old : ServerLine M
    pub new : ServerLine M
    pub to : IsLineTo order machine old
    pub fails : SendsNot follows contents order ready old new before after told

  -- or there was no memory for a line
  abbrev pub IsUnsentOver : SendOrder → W → W → Fault → Type 0
  IsUnsentOver order before after told =
      IsCutOver order before after told ⊎ ((told ≡ Memory) × (after ≡ before))
