use Rattle.std.proofs.Common.{◌∙◌, true, cond, ap}
use Rattle.tb_import.specs.Sets.{has_place}
use Rattle.tb_board.proofs.Pairs.{same_pair}
use Rattle.tb_import.proofs.Setting.{came}
use Rattle.tb_import.proofs.places.Places.insert.Goals as goal

pub returns : goal.returns
returns c = λ id k.
    c.in_ok-insert.ensures.updates.0 (id, k)
    ∙ ap (λ p. cond p true (has_place c.args.self.now id k)) (same_pair c.args.template id c.args.place k)
    ∙ came _ (has_place c.args.self.now id k)
