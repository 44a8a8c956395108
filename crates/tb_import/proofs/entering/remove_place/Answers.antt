use Rattle.tb_import.proofs.Taking.{gone_removed}
use Rattle.tb_import.proofs.entering.remove_place.Goals as goal

pub returns-in-Some-Some : goal.returns-in-Some-Some
returns-in-Some-Some c = λ gs are.
    rw (c.if-taking.true, c.in-Some-Some.is-0, c.in-Some-Some.is-1)
    (gone_removed gs c.args.places.now c.remove.new.self c.in-Some-Some.parent c.in-Some-Some.place are c.remove.ensures)
