use Rattle.std.proofs.Common.{◌≡◌, ◌-◌, get_or, arith, ◌∙◌, ap, subst, sym}
use Rattle.tb_task.specs.declared.task.Task.{Task}
use Rattle.tb_board.proofs.Linking.{place_from, places_all, places_more}
use Rattle.tb_board.proofs.links.places_of.Goals as goal

pub loop-place-preserved : goal.loop-place-preserved
loop-place-preserved c =
    record {
      within = omega (arith, c.loop-place.invariant.within);
      places = places_more c.args.tasks.now _ c.loop-place.place _ c.loop-place.places c.insert.new.self (omega (arith, c.loop-place-test.true))
          (omega (arith, c.loop-place-test.true, c.loop-place.invariant.within)) (subst (λ (t : Task). t ≡ get_or c.args.tasks.now (c.loop-place.place - 1) t) (sym c.get.ensures) c.index-tasks-place.is) c.loop-place.invariant.places
          c.in_ok-insert.ensures.updates.0;
    }

pub returns : goal.returns
returns c = λ id.
    let start : c.loop-place.place ≡ 0 = omega (arith, c.loop-place-test.false) in
    c.loop-place.invariant.places id ∙ ap (λ k. place_from c.args.tasks.now k id) start ∙ places_all c.args.tasks.now id
