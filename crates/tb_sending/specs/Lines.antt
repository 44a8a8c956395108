-- The line on which an order is sent.
use Rattle.std.specs.Prelude.{◌≡◌}
use Rattle.tb_command_line.specs.declared.order.SendOrder.{SendOrder}
use Rattle.tb_sending.specs.declared.server_line.ServerLine.{ServerLine}

-- it is to the order's server, for the order's time, and the machine's side of it is this
abbrev pub IsLineTo : {D : Type 0} → SendOrder → D → ServerLine D → Type 0
IsLineTo order dial line =
    (line.dial ≡ dial) × (line.server ≡ order.server) × (line.seconds ≡ order.seconds)
