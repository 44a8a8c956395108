use Rattle.std.proofs.Common.{subst, sym}
use Rattle.std.proofs.lemmas.Result.{IfOk-weaker}
use Rattle.tb_files.specs.File.{IsFoundIn}
use Rattle.tb_files.proofs.file.open_beside.Goals as goal

pub returns-in-Ok-clause-found : goal.returns-in-Ok-clause-found
returns-in-Ok-clause-found g c =
    let opened = c.in-Ok.ensures.opened in
    IfOk-weaker c.take_opened.result _ _ (λ taken is. subst (IsFoundIn _) (sym is.0) (record {
      idle = is.1;
      rests = λ clean. record { is_open = (opened clean).0.is_open; clean = (opened clean).0.clean };
      finds = c.in-Ok.ensures.found;
    })) c.take_opened.ensures.same
