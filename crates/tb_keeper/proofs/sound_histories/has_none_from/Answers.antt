use Rattle.std.proofs.Common.{◌∙◌, ◌≤◌, true≢false, sym, arith}
use Rattle.sqlite.specs.Held.{state}
use Rattle.tb_lookup.proofs.Standing.{stood}
use Rattle.tb_keeper.proofs.SoundHistories.{none_within}
use Rattle.tb_keeper.proofs.sound_histories.has_none_from.Goals as goal

pub returns-then-not-none-clause-tells : goal.returns-then-not-none-clause-tells
returns-then-not-none-clause-tells g c clean content stands =
    let last = c.unwrap_or-last.result in
    let low : c.args.first ≤ last = omega arith in
    let high : last ≤ 4294967295 = omega arith in
    let at = stood content (state g.S.Store c.args.conn.now) (state g.S.Store c.last_number_on.new.conn) stands c.in_ok-last_number_on.ensures.same in (
      λ so. absurd (true≢false (sym so)),
      λ none. absurd (true≢false (sym ((c.in_ok-none.ensures.tells clean content at).1 (none_within c.args.board c.args.first last last 4294967295 low high content.history none)) ∙ c.if-not-none.true)),
    )
