use Rattle.std.proofs.lemmas.Result.{IfOk-weaker}
use Rattle.tb_desk.proofs.Admitted.{shows_one, shows_role}
use Rattle.tb_desk.proofs.admitting.find_refusal.Goals as goal

pub returns-in_ok-seen-in-One-clause-told : goal.returns-in_ok-seen-in-One-clause-told
returns-in_ok-seen-in-One-clause-told g c honest s held known at =
    shows_one s c.args.name.now c.args.view.now _ _ at _ _ c.in-One.is (c.in_ok-seen-in-One.ensures.told honest s held known) (c.refusal_of_one.ensures.one at) (c.refusal_of_one.ensures.history s)

pub returns-in-Listing-clause-told : goal.returns-in-Listing-clause-told
returns-in-Listing-clause-told g c honest s held known at =
    IfOk-weaker c.refusal_on.result _ _ (λ r told. shows_role s c.args.name.now c.args.view.now _ at r (g.met.K.Keep.good _ s held) c.in-Listing.is told) (c.refusal_on.ensures.told honest s held)
