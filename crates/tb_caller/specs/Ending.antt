-- How an order ends by whether it was accepted.
use Rattle.std.specs.Prelude.{Bool, true, false}
use Rattle.tb_orders.specs.declared.ending.Ending.{Ending}
use Rattle.tb_orders.specs.declared.ending.Ending.TheVariants.{Accepted, Refused}

abbrev pub ending_if : Bool → Ending
ending_if true = Accepted
ending_if false = Refused
