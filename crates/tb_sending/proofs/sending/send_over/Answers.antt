use Rattle.std.proofs.Common.{rules, ◌≡◌, false, inl, inr}
use Rattle.tb_sending.specs.Sending.{has_no_places}
use Rattle.tb_sending.proofs.sending.send_over.Goals as goal

pub returns-clause-unsent : goal.returns-clause-unsent
returns-clause-unsent g c =
    let some : has_no_places c.args.order.now.words ≡ false = search rules in
    inr (inl (some, c.in-Err.ensures.kept, c.in-Err.ensures.unnamed))
