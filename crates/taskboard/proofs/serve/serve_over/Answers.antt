use Rattle.std.proofs.Common.{◌∙◌, ◌≡◌, Err, Ok, ap, inl, inr, refl, subst, sym, true}
use Rattle.tb_files.specs.File.{IsSaved, IsUnsaved}
use Rattle.tb_files.specs.GivenUp.{IsGivenUp}
use Rattle.taskboard.specs.Serve.{fault_of_loop, server_at}
use Rattle.taskboard.proofs.Handed.{left_by}
use Rattle.taskboard.proofs.Sessions.{cause_of, served_by}
use Rattle.taskboard.proofs.serve.serve_over.Goals as goal

pub returns-in_ok-close_desk-in-Ok-clause-served : goal.returns-in_ok-close_desk-in-Ok-clause-served
returns-in_ok-close_desk-in-Ok-clause-served g c =
    let (later, desk, runs, run, laps) = c.in-Ok.ensures.run in (
      refl,
      record {
        new = later.desk;
        served = served_by _ c.args.order.now (Ok tt) g.C.Clock.gives c.args.server.clock _ c.args.sockets.now c.run_server.new.sockets c.args.server later
            (λ at. server_at _ at.desk at.paths.site at.peers.items) runs
            (λ halted history a b is.
            record { page = is.page; places = is.places; calls = is.calls; timed = is.timed; fits = is.fits; asked = tt; honest = is.honest; run = is.run })
            (λ at place. refl) c.requires.page c.requires.silent c.requires.limit run;
        files = c.in_ok-close_desk-in-Ok.ensures.saved.0;
        saved = subst (λ keep. IsSaved keep.conn c.in_ok-close_desk-in-Ok.ensures.saved.0) (sym desk) c.in_ok-close_desk-in-Ok.ensures.saved.1;
      },
    )

pub returns-in_err-close_desk-in-Ok-clause-cut : goal.returns-in_err-close_desk-in-Ok-clause-cut
returns-in_err-close_desk-in-Ok-clause-cut g c =
    let (later, desk, runs, run, laps) = c.in-Ok.ensures.run in
    left_by c.from_residual.result c.in_err-close_desk-in-Ok.field-0.0 _ c.from_residual.ensures.1 (inr (record {
      new = later.desk;
      served = served_by _ c.args.order.now (Ok tt) g.C.Clock.gives c.args.server.clock _ c.args.sockets.now c.run_server.new.sockets c.args.server later
          (λ at. server_at _ at.desk at.paths.site at.peers.items) runs
          (λ halted history a b is.
          record { page = is.page; places = is.places; calls = is.calls; timed = is.timed; fits = is.fits; asked = tt; honest = is.honest; run = is.run })
          (λ at place. refl) c.requires.page c.requires.silent c.requires.limit run;
      is_told = c.in_err-close_desk-in-Ok.ensures.fault;
      unsaved = subst (λ keep. IsUnsaved keep.conn) (sym desk) c.in_err-close_desk-in-Ok.ensures.unsaved;
    }))

pub returns-in-Err-Moved-default-clause-cut : goal.returns-in-Err-Moved-default-clause-cut
returns-in-Err-Moved-default-clause-cut g c =
    let (later, desk, runs, run, laps) = c.in-Err-Moved-default.ensures.cut in
    inl (record {
      new = later.desk;
      why = c.in-Err-Moved-default.field-0-0;
      served = served_by _ c.args.order.now (Err c.in-Err-Moved-default.field-0-0) g.C.Clock.gives c.args.server.clock _ c.args.sockets.now c.run_server.new.sockets c.args.server later
          (λ at. server_at _ at.desk at.paths.site at.peers.items) runs
          (λ halted history a b is.
          record { page = is.page; places = is.places; calls = is.calls; timed = is.timed; fits = is.fits; asked = tt; honest = is.honest; run = is.run })
          (λ at place. refl) c.requires.page c.requires.silent c.requires.limit run;
      is_told = c.fault_of_loop.ensures.told ∙ ap fault_of_loop (sym c.in-Err-Moved-default.field-0-0-is);
      cause = cause_of c.in-Err-Moved-default.field-0-0 c.in-Err-Moved-default.ensures.memory c.in-Err-Moved-default.ensures.cause c.in-Err-Moved-default.ensures.moved
          (λ is. subst (λ keep. keep.failed ≡ true) (sym desk) (c.in-Err-Moved-default.ensures.failed is));
      left = inl c.in-Err-Moved-default.field-0-0-is;
    })

pub returns-in-Err : goal.returns-in-Err
returns-in-Err g c =
    let (later, desk, runs, run, laps) = c.in-Err.ensures.cut in
    record {
      served = tt;
      cut = inl (record {
        new = later.desk;
        why = c.in-Err.fault;
        served = served_by _ c.args.order.now (Err c.in-Err.fault) g.C.Clock.gives c.args.server.clock _ c.args.sockets.now c.run_server.new.sockets c.args.server later
            (λ at. server_at _ at.desk at.paths.site at.peers.items) runs
            (λ halted history a b is.
            record { page = is.page; places = is.places; calls = is.calls; timed = is.timed; fits = is.fits; asked = tt; honest = is.honest; run = is.run })
            (λ at place. refl) c.requires.page c.requires.silent c.requires.limit run;
        is_told = c.fault_of_loop-in-Err.ensures.told;
        cause = cause_of c.in-Err.fault c.in-Err.ensures.memory c.in-Err.ensures.cause c.in-Err.ensures.moved
            (λ is. subst (λ keep. keep.failed ≡ true) (sym desk) (c.in-Err.ensures.failed is));
        left = inr (c.give_up_desk.result, subst (λ keep. IsGivenUp keep.conn c.give_up_desk.result) (sym desk) c.give_up_desk.ensures);
      });
      fault = c.fault_of_loop-in-Err.ensures.serving;
    }
