use Rattle.std.proofs.Common.{◌∙◌, false, cond, ap}
use Rattle.tb_import.specs.Sets.{has_place}
use Rattle.tb_board.proofs.Pairs.{same_pair}
use Rattle.tb_import.proofs.Setting.{went}
use Rattle.tb_import.proofs.places.Places.remove.Goals as goal

pub returns : goal.returns
returns c = λ id k.
    c.remove.ensures.updates.0 (id, k)
    ∙ ap (λ p. cond p false (has_place c.args.self.now id k)) (same_pair c.args.template id c.args.place k)
    ∙ went _ (has_place c.args.self.now id k)
