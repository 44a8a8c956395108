use Rattle.std.proofs.Common.{refl, subst}
use Rattle.std.proofs.lemmas.Result.{IfErr-weaker, IfOk-weaker}
use Rattle.std.specs.Io.KnownBytes.{Appends}
use Rattle.tb_values.specs.Appends.{AppendsFront}
use Rattle.taskboard.proofs.Handed.{all_three, always, both, done_alone, left_alone, of_any, printing_none}
use Rattle.taskboard.proofs.carry_out.Goals as goal

pub returns-in-Init-clause-done : goal.returns-in-Init-clause-done
returns-in-Init-clause-done g c = rw c.in-Init.is c.init.ensures.made

pub returns-in-Init-clause-fault : goal.returns-in-Init-clause-fault
returns-in-Init-clause-fault g c = rw c.in-Init.is c.init.ensures.fault

pub returns-in-Serve-clause-done : goal.returns-in-Serve-clause-done
returns-in-Serve-clause-done g c =
    rw c.in-Serve.is (done_alone c.alone.result c.serve_file.result _ c.alone.ensures.ended c.serve_file.ensures.served)

pub returns-in-Serve-clause-fault : goal.returns-in-Serve-clause-fault
returns-in-Serve-clause-fault g c =
    rw c.in-Serve.is (left_alone c.alone.result c.serve_file.result _ c.alone.ensures.fault c.serve_file.ensures.fault)

pub returns-in-Run-clause-fault : goal.returns-in-Run-clause-fault
returns-in-Run-clause-fault g c =
    rw c.in-Run.is (left_alone c.alone-in-Run.result c.run_script.result _ c.alone-in-Run.ensures.fault c.run_script.ensures.fault)

pub returns-in-Import-clause-done : goal.returns-in-Import-clause-done
returns-in-Import-clause-done g c = rw c.in-Import.is c.import_into_file.ensures.imported

pub returns-in-Import-clause-fault : goal.returns-in-Import-clause-fault
returns-in-Import-clause-fault g c = rw c.in-Import.is c.import_into_file.ensures.fault

pub returns-in-ImportAll-clause-done : goal.returns-in-ImportAll-clause-done
returns-in-ImportAll-clause-done g c = rw c.in-ImportAll.is c.import_parts_into_file.ensures.imported

pub returns-in-ImportAll-clause-fault : goal.returns-in-ImportAll-clause-fault
returns-in-ImportAll-clause-fault g c = rw c.in-ImportAll.is c.import_parts_into_file.ensures.fault

pub returns-in-Clean-clause-done : goal.returns-in-Clean-clause-done
returns-in-Clean-clause-done g c = rw c.in-Clean.is c.clean_into_file.ensures.done

pub returns-in-Clean-clause-fault : goal.returns-in-Clean-clause-fault
returns-in-Clean-clause-fault g c = rw c.in-Clean.is c.clean_into_file.ensures.fault

pub returns-in-View-clause-done : goal.returns-in-View-clause-done
returns-in-View-clause-done g c = rw c.in-View.is c.view.ensures.shown

pub returns-in-View-clause-fault : goal.returns-in-View-clause-fault
returns-in-View-clause-fault g c = rw c.in-View.is c.view.ensures.fault

pub returns-in-Check-clause-done : goal.returns-in-Check-clause-done
returns-in-Check-clause-done g c = rw c.in-Check.is c.check.ensures.checked

pub returns-in-Check-clause-fault : goal.returns-in-Check-clause-fault
returns-in-Check-clause-fault g c = rw c.in-Check.is c.check.ensures.fault

pub returns-in-Key-clause-done : goal.returns-in-Key-clause-done
returns-in-Key-clause-done g c =
    rw c.in-Key.is (done_alone c.alone-in-Key.result c.give_key.result _ c.alone-in-Key.ensures.ended c.give_key.ensures.given)

pub returns-in-Key-clause-fault : goal.returns-in-Key-clause-fault
returns-in-Key-clause-fault g c =
    rw c.in-Key.is (left_alone c.alone-in-Key.result c.give_key.result _ c.alone-in-Key.ensures.fault c.give_key.ensures.fault)

pub returns-in-Send-clause-done : goal.returns-in-Send-clause-done
returns-in-Send-clause-done g c =
    rw c.in-Send.is (done_alone c.alone-in-Send.result c.send.result _ c.alone-in-Send.ensures.ended c.send.ensures.sent)

pub returns-in-Send-clause-fault : goal.returns-in-Send-clause-fault
returns-in-Send-clause-fault g c =
    rw c.in-Send.is (left_alone c.alone-in-Send.result c.send.result _ c.alone-in-Send.ensures.fault c.send.ensures.fault)

pub returns-in-My-clause-done : goal.returns-in-My-clause-done
returns-in-My-clause-done g c =
    rw c.in-My.is (done_alone c.alone-in-My.result c.ask_mine.result _ c.alone-in-My.ensures.ended c.ask_mine.ensures.done)

pub returns-in-My-clause-fault : goal.returns-in-My-clause-fault
returns-in-My-clause-fault g c =
    rw c.in-My.is (left_alone c.alone-in-My.result c.ask_mine.result _ c.alone-in-My.ensures.fault c.ask_mine.ensures.fault)

pub returns-in-Help-clause-done : goal.returns-in-Help-clause-done
returns-in-Help-clause-done g c =
    let contents = g.W.Write.contents in
    let told = IfOk-weaker c.tell.result _ _
    (λ ending is. (is.0, subst (λ text. Appends (contents c.args.writer.now) (contents c.tell.new.writer) text) c.text.ensures is.1))
    c.tell.ensures.whole in
    rw c.in-Help.is (done_alone c.alone-in-Help.result c.tell.result _ c.alone-in-Help.ensures.ended told)

pub returns-in-Help-clause-fault : goal.returns-in-Help-clause-fault
returns-in-Help-clause-fault g c =
    rw c.in-Help.is (left_alone c.alone-in-Help.result c.tell.result _ c.alone-in-Help.ensures.fault c.tell.ensures.fault)

pub returns-in-Version-clause-done : goal.returns-in-Version-clause-done
returns-in-Version-clause-done g c =
    rw c.in-Version.is (done_alone c.alone-in-Version.result c.tell-in-Version.result _ c.alone-in-Version.ensures.ended c.tell-in-Version.ensures.whole)

pub returns-in-Version-clause-fault : goal.returns-in-Version-clause-fault
returns-in-Version-clause-fault g c =
    rw c.in-Version.is (left_alone c.alone-in-Version.result c.tell-in-Version.result _ c.alone-in-Version.ensures.fault c.tell-in-Version.ensures.fault)

pub returns-in-Init-clause-left : goal.returns-in-Init-clause-left
returns-in-Init-clause-left g c = rw c.in-Init.is (IfErr-weaker c.init.result _ _ (λ failed unmade. (refl, unmade)) c.init.ensures.unmade)

pub returns-in-Serve-clause-left : goal.returns-in-Serve-clause-left
returns-in-Serve-clause-left g c =
    rw c.in-Serve.is (left_alone c.alone.result c.serve_file.result _ c.alone.ensures.fault
    (printing_none c.serve_file.result c.args.writer.now _ c.serve_file.ensures.failed))

pub returns-in-Import-clause-left : goal.returns-in-Import-clause-left
returns-in-Import-clause-left g c =
    let ensures = c.import_into_file.ensures in
    rw c.in-Import.is (all_three c.import_into_file.result _ _ _ ensures.failed ensures.silent ensures.item)

pub returns-in-ImportAll-clause-left : goal.returns-in-ImportAll-clause-left
returns-in-ImportAll-clause-left g c =
    let ensures = c.import_parts_into_file.ensures in
    rw c.in-ImportAll.is (all_three c.import_parts_into_file.result _ _ _ ensures.failed ensures.silent ensures.item)

pub returns-in-Clean-clause-left : goal.returns-in-Clean-clause-left
returns-in-Clean-clause-left g c = rw c.in-Clean.is c.clean_into_file.ensures.left

pub returns-in-View-clause-left : goal.returns-in-View-clause-left
returns-in-View-clause-left g c = rw c.in-View.is c.view.ensures.unshown

pub returns-in-Check-clause-left : goal.returns-in-Check-clause-left
returns-in-Check-clause-left g c = rw c.in-Check.is c.check.ensures.unchecked

pub returns-in-Key-clause-left : goal.returns-in-Key-clause-left
returns-in-Key-clause-left g c =
    rw c.in-Key.is (left_alone c.alone-in-Key.result c.give_key.result _ c.alone-in-Key.ensures.fault
    (both c.give_key.result _ _ c.give_key.ensures.failed c.give_key.ensures.silent))

pub returns-in-Send-clause-left : goal.returns-in-Send-clause-left
returns-in-Send-clause-left g c =
    rw c.in-Send.is (left_alone c.alone-in-Send.result c.send.result _ c.alone-in-Send.ensures.fault c.send.ensures.unsent)

pub returns-in-My-clause-left : goal.returns-in-My-clause-left
returns-in-My-clause-left g c = rw c.in-My.is (always c.alone-in-My.result _ (λ failed. tt))

pub returns-in-Help-clause-left : goal.returns-in-Help-clause-left
returns-in-Help-clause-left g c =
    let contents = g.W.Write.contents in
    let told = IfErr-weaker c.tell.result _ _
    (λ fault is. subst (λ text. AppendsFront (contents c.args.writer.now) (contents c.tell.new.writer) text) c.text.ensures is)
    (of_any c.tell.result _ c.tell.ensures.front) in
    rw c.in-Help.is (left_alone c.alone-in-Help.result c.tell.result _ c.alone-in-Help.ensures.fault told)

pub returns-in-Version-clause-left : goal.returns-in-Version-clause-left
returns-in-Version-clause-left g c =
    rw c.in-Version.is (left_alone c.alone-in-Version.result c.tell-in-Version.result _ c.alone-in-Version.ensures.fault (of_any c.tell-in-Version.result _ c.tell-in-Version.ensures.front))
