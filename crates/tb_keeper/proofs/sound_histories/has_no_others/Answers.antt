use Rattle.std.proofs.Common.{◌<◌, ◌+◌, refl, arith}
use Rattle.tb_keeper.proofs.SoundHistories.{none_between}
use Rattle.tb_keeper.proofs.sound_histories.has_no_others.Goals as goal

pub returns-in-None-clause-tells : goal.returns-in-None-clause-tells
returns-in-None-clause-tells g c clean content stands =
    let past : 4294967295 < c.args.last + 1 = omega (arith, c.in-None.ensures) in
    (λ so. ((c.in_ok-none.ensures.tells clean content stands).0 c.if-not-none.false, none_between c.args.board (c.args.last + 1) 4294967295 past content.history), λ both. refl)
