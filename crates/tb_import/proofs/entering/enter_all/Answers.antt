use Rattle.tb_import.proofs.Steps.{entered_next}
use Rattle.tb_import.proofs.entering.enter_all.Goals as goal

pub loop-incoming-preserved : goal.loop-incoming-preserved
loop-incoming-preserved c =
    record {
      entered = λ first all known gone.
          let so_far = c.loop-incoming.invariant.entered first all known gone in
          entered_next first all c.args.entering c.loop-incoming.entering c.in_ok-entering.entering c.args.new.now c.loop-incoming.incoming-index c.incoming-item.result
          c.loop-incoming-test.true c.incoming-item.is so_far (c.in_ok-entering.ensures.entered first all known so_far.places);
      follows = λ start h. c.in_ok-entering.ensures.follows start (c.loop-incoming.invariant.follows start h);
    }
