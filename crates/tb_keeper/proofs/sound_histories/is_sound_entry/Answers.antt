use Rattle.std.proofs.Common.{◌∙◌, sym}
use Rattle.std.proofs.lemmas.Result.{IfOk-weaker}
use Rattle.sqlite.specs.Held.{state}
use Rattle.tb_lookup.proofs.Standing.{stood}
use Rattle.tb_keeper.proofs.SoundSteps.{entry_tells}
use Rattle.tb_keeper.proofs.sound_histories.is_sound_entry.Goals as goal

pub returns-clause-tells : goal.returns-clause-tells
returns-clause-tells g c =
    IfOk-weaker c.has_kept.result _ _
    (λ there tells clean content stands.
    entry_tells content c.args.tasks c.args.row.now (c.is_readable.ensures.0 c.if-not-is_readable.false) (sym c.if-not-known.false ∙ c.in_ok-known.ensures.found (c.has_kept.ensures.same.clean clean) content stands) there
    (tells clean content (stood content (state g.S.Store c.args.conn.now) (state g.S.Store c.has_person_at.new.conn) stands c.in_ok-known.ensures.same)))
    c.has_kept.ensures.tells
