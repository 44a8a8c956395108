use Rattle.std.proofs.Common.{rules, subst, inr}
use Rattle.tb_calls.specs.Call.{after_call}
use Rattle.tb_desk.proofs.Commits.{known_is_some, may_commit, told_new, with_reply-after_call}
use Rattle.tb_desk.proofs.Moves.{either_of, held_where_honest, still_either, where_honest}
use Rattle.tb_desk.proofs.Repeats.{good_next}
use Rattle.tb_desk.proofs.handling.answer_new.Goals as goal

pub returns-clause-told : goal.returns-clause-told
returns-clause-told g c honest s held new =
    let call = c.args.call.now in
    let saw = c.in_ok-seen.ensures.answer (c.in_ok-commit.ensures.honest honest) s held (known_is_some s call new.known) in
    let made = c.in_ok-decision.ensures.decided s.world call.member saw in
    told_new s call c.in_ok-decision.decision _ made c.in_ok-reply.ensures

pub returns-clause-left : goal.returns-clause-left
returns-clause-left g c s held new =
    let call = c.args.call.now in
    g.met.K.Keep.given _ _ (good_next s call (g.met.K.Keep.good _ s held)) (λ honest.
    let saw = c.in_ok-seen.ensures.answer (c.in_ok-commit.ensures.honest honest) s held (known_is_some s call new.known) in
    let made = c.in_ok-decision.ensures.decided s.world call.member saw in
    let did = c.deed_of-deed.ensures.of s.world call.member saw made.answer in
    let decision = c.in_ok-decision.decision in
    let may = may_commit s call decision _ _ c.as_slice.ensures c.in_ok-decision.ensures.shape did (g.met.K.Keep.good _ s held) new made in
    subst (g.K.Keep.holds c.commit.new.self) (with_reply-after_call s call decision _ _ _ c.as_slice.ensures did made c.in_ok-reply.ensures)
    (c.in_ok-commit.ensures.ok s (c.in_ok-seen.ensures.same.held s held) may))

pub returns-in_err-commit-clause-store : goal.returns-in_err-commit-clause-store
returns-in_err-commit-clause-store g c s held new only failed =
    let call = c.args.call.now in
    where_honest _
    (λ honest.
    let saw = c.in_ok-seen.ensures.answer (c.in_err-commit.ensures.honest honest) s held (known_is_some s call new.known) in
    let made = c.in_ok-decision.ensures.decided s.world call.member saw in
    let did = c.deed_of-deed.ensures.of s.world call.member saw made.answer in
    let decision = c.in_ok-decision.decision in
    let may = may_commit s call decision _ _ c.as_slice.ensures c.in_ok-decision.ensures.shape did (g.met.K.Keep.good _ s held) new made in
    either_of (after_call s call) (with_reply-after_call s call decision _ _ _ c.as_slice.ensures did made c.in_ok-reply.ensures)
    (c.in_err-commit.ensures.store s (c.in_ok-seen.ensures.same.held s held) may c.in_ok-seen.ensures.failed))
    (g.met.K.Keep.given _ s (g.met.K.Keep.good _ s held))
    (g.met.K.Keep.leaves _)

pub returns-in_err-commit-clause-memory : goal.returns-in_err-commit-clause-memory
returns-in_err-commit-clause-memory g c s held new failed =
    let call = c.args.call.now in
    g.met.K.Keep.given _ s (g.met.K.Keep.good _ s held) (λ honest.
    let saw = c.in_ok-seen.ensures.answer (c.in_err-commit.ensures.honest honest) s held (known_is_some s call new.known) in
    let made = c.in_ok-decision.ensures.decided s.world call.member saw in
    let did = c.deed_of-deed.ensures.of s.world call.member saw made.answer in
    let may = may_commit s call c.in_ok-decision.decision _ _ c.as_slice.ensures c.in_ok-decision.ensures.shape did (g.met.K.Keep.good _ s held) new made in
    c.in_err-commit.ensures.memory s (c.in_ok-seen.ensures.same.held s held) may (search rules))

pub returns-in_err-seen-clause-store : goal.returns-in_err-seen-clause-store
returns-in_err-seen-clause-store g c s held new only failed = still_either s _ _ _ _ _ c.in_err-seen.ensures.same held only

pub returns-clause-held : goal.returns-clause-held
returns-clause-held g c s held new = inr (returns-clause-left g c s held new)

pub returns-in_err-commit-clause-held : goal.returns-in_err-commit-clause-held
returns-in_err-commit-clause-held g c s held new =
    let call = c.args.call.now in
    held_where_honest (g.K.Keep.holds c.commit.new.self) _
    (λ honest.
    let saw = c.in_ok-seen.ensures.answer (c.in_err-commit.ensures.honest honest) s held (known_is_some s call new.known) in
    let made = c.in_ok-decision.ensures.decided s.world call.member saw in
    let did = c.deed_of-deed.ensures.of s.world call.member saw made.answer in
    let decision = c.in_ok-decision.decision in
    let may = may_commit s call decision _ _ c.as_slice.ensures c.in_ok-decision.ensures.shape did (g.met.K.Keep.good _ s held) new made in
    let found = either_of (after_call s call) (with_reply-after_call s call decision _ _ _ c.as_slice.ensures did made c.in_ok-reply.ensures)
    (c.in_err-commit.ensures.store s (c.in_ok-seen.ensures.same.held s held) may c.in_ok-seen.ensures.failed) in
    found.held)
    (g.met.K.Keep.given _ s (g.met.K.Keep.good _ s held))
