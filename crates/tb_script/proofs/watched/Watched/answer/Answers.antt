use Rattle.std.proofs.Common.{◌∙◌, arith}
use Rattle.std.proofs.lemmas.List.{length-drop, take_rest}
use Rattle.tb_values.proofs.Appends.{Appends-keeps, Appends-take, AppendsFront-take}
use Rattle.tb_script.proofs.Runs.{on_err_since}
use Rattle.tb_script.proofs.watched.Watched.answer.Goals as goal

pub returns-in_err-taken-clause-front : goal.returns-in_err-taken-clause-front
returns-in_err-taken-clause-front g c =
    on_err_since c.from_residual.result
    (AppendsFront-take _ _ c.loop-written.written c.args.answers.now (Appends-keeps _ _ _ _ c.loop-written.invariant.front c.in_err-taken.ensures.bytes))

pub loop-written-preserved : goal.loop-written-preserved
loop-written-preserved g c =
    let before = c.loop-written.invariant in
    let e = c.in_ok-taken.ensures in
    record {
      within = omega (arith, e.taken.1, length-drop c.loop-written.written c.args.answers.now);
      front = Appends-take _ _ _ c.loop-written.written c.in_ok-taken.taken c.args.answers.now before.front (rw take_rest at e.bytes);
      failed = e.failed ∙ before.failed;
      left = e.reads.0 ∙ before.left;
      reads = e.reads.1 ∙ before.reads;
      read_failed = e.reads.2 ∙ before.read_failed;
    }
