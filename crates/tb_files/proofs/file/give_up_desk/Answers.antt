use Rattle.std.proofs.Common.{subst}
use Rattle.tb_files.specs.GivenUp.{IsGivenUp}
use Rattle.tb_files.proofs.file.give_up_desk.Goals as goal

pub returns : goal.returns
returns g c =
    subst (λ keep. IsGivenUp keep.conn c.into_store.result) c.into_keep.ensures
    (subst (λ conn. IsGivenUp conn c.into_store.result) c.close.ensures.conn
    (record { numbered = c.into_store.ensures.numbered; sound = c.into_store.ensures.sound; quiet = c.into_store.ensures.quiet }))
