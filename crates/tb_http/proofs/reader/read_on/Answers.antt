use Rattle.std.proofs.Common.{◌∙◌, ap, subst, sym, Ok}
use Rattle.std.proofs.lemmas.Result.{err_from_is_err_and}
use Rattle.tb_http.specs.Inbox.{IsUnfinished}
use Rattle.tb_http.proofs.ReaderLemmas.{ended_known, is_zero, not_zero, outside_known, torn_known}
use Rattle.tb_http.proofs.reader.read_on.Goals as goal

pub returns-in_err-read_more-clause-fault : goal.returns-in_err-read_more-clause-fault
returns-in_err-read_more-clause-fault g c =
    let p = err_from_is_err_and c.from_residual.result c.from_residual.ensures.1 in
    rw (p.1, p.2) (outside_known _ c.in_err-read_more.field-0.0 c.in_err-read_more.ensures.fault)

pub returns-then-is_empty-clause-fault : goal.returns-then-is_empty-clause-fault
returns-then-is_empty-clause-fault g c =
    let ended = c.in_ok-read_more.ensures.end (ap Ok c.if-branch.false) in
    let none = is_zero _ (sym c.is_empty.ensures ∙ c.if-is_empty.true) in
    ended_known _ (g.R.Read.remaining c.read_more.new.source) c.read_more.new.inbox.bytes c.in_ok-read_more.ensures.kept ended.1 none

pub returns-clause-fault : goal.returns-clause-fault
returns-clause-fault g c =
    let ended = c.in_ok-read_more.ensures.end (ap Ok c.if-branch.false) in
    let some = not_zero _ (sym c.is_empty.ensures ∙ c.if-is_empty.false) in
    let unfinished = subst IsUnfinished (sym ended.0) c.requires in
    torn_known _ (g.R.Read.remaining c.read_more.new.source) c.read_more.new.inbox.bytes c.in_ok-read_more.ensures.kept ended.1 unfinished some
