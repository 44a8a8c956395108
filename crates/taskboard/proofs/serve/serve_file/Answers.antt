use Rattle.std.proofs.Common.{inl, inr, refl}
use Rattle.std.proofs.lemmas.Result.{IfErr-weaker, IfOk-weaker}
use Rattle.taskboard.proofs.Handed.{left_by}
use Rattle.taskboard.proofs.serve.serve_file.Goals as goal

pub returns-clause-served : goal.returns-clause-served
returns-clause-served g c =
    IfOk-weaker c.serve_desk.result _ _ (λ ending is. (
      is.0,
      (c.in_ok-conn.conn, c.in_ok-conn.ensures.found, record { old = c.in_ok-desk.desk; begun = c.in_ok-desk.ensures.begun; does = is.1 }),
    )) c.serve_desk.ensures.served

pub returns-clause-failed : goal.returns-clause-failed
returns-clause-failed g c =
    IfErr-weaker c.serve_desk.result _ _ (λ fault left.
    inr (inr (c.in_ok-conn.conn, c.in_ok-conn.ensures.found, record { old = c.in_ok-desk.desk; begun = c.in_ok-desk.ensures.begun; does = left })))
    c.serve_desk.ensures.left

pub returns-in_err-page-clause-failed : goal.returns-in_err-page-clause-failed
returns-in_err-page-clause-failed g c =
    left_by c.from_residual.result c.in_err-page.field-0.0 _ c.from_residual.ensures.1 (inl c.in_err-page.ensures.unpaged)

pub returns-in_err-conn-clause-failed : goal.returns-in_err-conn-clause-failed
returns-in_err-conn-clause-failed g c =
    left_by c.from_residual-in_err-conn.result c.in_err-conn.field-0.0 _ c.from_residual-in_err-conn.ensures.1 (inr (inl (inl c.in_err-conn.ensures.fault)))

pub returns-in_err-desk-clause-failed : goal.returns-in_err-desk-clause-failed
returns-in_err-desk-clause-failed g c =
    left_by c.from_residual-in_err-desk.result c.in_err-desk.field-0.0.fault _ c.from_residual-in_err-desk.ensures.1
    (inr (inl (inr (record {
      found = c.in_ok-conn.conn;
      is_found = c.in_ok-conn.ensures.found;
      left = c.in_err-desk.field-0.0.left;
      untaken = c.in_err-desk.ensures.untaken;
    }))))
