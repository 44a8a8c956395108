use Rattle.std.proofs.Common.{inl, inr, refl}
use Rattle.std.proofs.lemmas.Result.{IfErr-at_err, IfOk-at_ok}
use Rattle.tb_files.proofs.Handed.{left_by}
use Rattle.tb_files.proofs.Begun.{begun_as}
use Rattle.tb_files.proofs.Quiet.{unwritten}
use Rattle.tb_orders.proofs.NewKeys.{asked_anyhow}
use Rattle.tb_files.proofs.key.give_key_in_file.Goals as goal

pub returns-in-Ok-clause-given : goal.returns-in-Ok-clause-given
returns-in-Ok-clause-given g c = record {
  old = c.into_keep.result;
  new = c.give_key-desk.result.0;
  session = record {
    found = c.in_ok-desk.ensures.begun.0;
    is_found = c.in_ok-desk.ensures.begun.1;
    begun = begun_as _ c.in_ok-desk.ensures.begun.0 c.into_keep.result c.in_ok-desk.desk c.into_keep.ensures c.in_ok-desk.ensures.begun.2;
    files = c.in_ok-close_desk-in-Ok.ensures.saved.0;
    saved = c.in_ok-close_desk-in-Ok.ensures.saved.1;
  };
  asked = c.in_ok-asked.asked;
  is_asked = asked_anyhow _ _ _ _ _ c.in_ok-asked.ensures.asked;
  does = λ honest s held. IfOk-at_ok _ c.in-Ok.is (c.give_key-desk.ensures.given honest s held);
}

pub returns-clause-silent : goal.returns-clause-silent
returns-clause-silent g c quiet = IfErr-at_err _ c.in-Err.is c.give_key-desk.ensures.silent (unwritten c.in-Err.fault quiet)

pub returns-in_err-asked-clause-failed : goal.returns-in_err-asked-clause-failed
returns-in_err-asked-clause-failed g c =
    left_by c.from_residual.result c.in_err-asked.field-0.0 _ c.from_residual.ensures.1 (inl (c.in_err-asked.ensures.fault, refl))

pub returns-in_err-desk-clause-failed : goal.returns-in_err-desk-clause-failed
returns-in_err-desk-clause-failed g c =
    left_by c.from_residual-in_err-desk.result c.in_err-desk.field-0.0 _ c.from_residual-in_err-desk.ensures.1 (inr (inl (c.in_err-desk.ensures.unopened, refl)))

pub returns-in_err-close_desk-in-Ok-clause-failed : goal.returns-in_err-close_desk-in-Ok-clause-failed
returns-in_err-close_desk-in-Ok-clause-failed g c =
    let begun = c.in_ok-desk.ensures.begun in
    left_by c.from_residual-in_err-close_desk-in-Ok.result c.in_err-close_desk-in-Ok.field-0.0 _ c.from_residual-in_err-close_desk-in-Ok.ensures.1 (inr (inr (
      begun.0,
      begun.1,
      record {
        old = c.into_keep.result;
        begun = begun_as _ begun.0 c.into_keep.result c.in_ok-desk.desk c.into_keep.ensures begun.2;
        does = record {
          new = c.give_key-desk.result.0;
          asked = c.in_ok-asked.asked;
          is_asked = asked_anyhow _ _ _ _ _ c.in_ok-asked.ensures.asked;
          end = c.give_key-desk.result.1;
          ends = rw c.in-Ok.is c.in_err-close_desk-in-Ok.ensures.fault;
          unsaved = rw c.in-Ok.is c.in_err-close_desk-in-Ok.ensures.unsaved;
          done = c.give_key-desk.ensures.given;
          held = c.give_key-desk.ensures.held;
          stands = c.give_key-desk.ensures.stands;
          front = c.give_key-desk.ensures.front;
        };
      },
    )))

pub returns-clause-failed : goal.returns-clause-failed
returns-clause-failed g c =
    let begun = c.in_ok-desk.ensures.begun in
    inr (inr (
      begun.0,
      begun.1,
      record {
        old = c.into_keep.result;
        begun = begun_as _ begun.0 c.into_keep.result c.in_ok-desk.desk c.into_keep.ensures begun.2;
        does = record {
          new = c.give_key-desk.result.0;
          asked = c.in_ok-asked.asked;
          is_asked = asked_anyhow _ _ _ _ _ c.in_ok-asked.ensures.asked;
          end = c.give_key-desk.result.1;
          ends = rw c.in-Err.is refl;
          unsaved = rw c.in-Err.is tt;
          done = c.give_key-desk.ensures.given;
          held = c.give_key-desk.ensures.held;
          stands = c.give_key-desk.ensures.stands;
          front = c.give_key-desk.ensures.front;
        };
      },
    ))
