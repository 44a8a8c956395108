use Rattle.std.proofs.Common.{arith}
use Rattle.tb_sweep.proofs.Adding.{grown_begin, grown_step, grown_end}
use Rattle.tb_sweep.proofs.growing.grown_all.Goals as goal

pub loop-place-init : goal.loop-place-init
loop-place-init c = record { grown = grown_begin c.args.at c.args.growing.draft.board; growing = c.requires; follows = λ start h. h }

pub grown-requires-clause-place : goal.grown-requires-clause-place
grown-requires-clause-place c = omega (arith, c.loop-place.invariant.grown.size)

pub loop-place-preserved : goal.loop-place-preserved
loop-place-preserved c =
    record {
      grown = grown_step c.args.at c.args.growing.draft.board c.loop-place.growing.draft.board _ c.loop-place.place (omega arith) c.loop-place.invariant.grown c.in_ok-growing.ensures.grown;
      growing = c.in_ok-growing.ensures.growing;
      follows = λ start h. c.in_ok-growing.ensures.follows start (c.loop-place.invariant.follows start h);
    }

pub returns-clause-grown : goal.returns-clause-grown
returns-clause-grown c = grown_end c.args.at c.args.growing.draft.board c.loop-place.growing.draft.board c.loop-place.place (omega arith) c.loop-place.invariant.grown
