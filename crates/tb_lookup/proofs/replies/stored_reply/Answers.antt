use Rattle.std.proofs.Common.{◌≡◌, ◌∙◌, Some, None, filter, rules, ap, subst}
use Rattle.tb_sql.specs.Changes.{is_kept}
use Rattle.tb_sql_tables.specs.Found.{IsOneOf}
use Rattle.tb_lookup.proofs.KeptOnes.{reply_found}
use Rattle.std.proofs.lemmas.Result.{err_from_is_err_and}
use Rattle.sqlite.specs.Held.{state}
use Rattle.tb_lookup.proofs.Excused.{by_content, err_told}
use Rattle.tb_lookup.proofs.replies.stored_reply.Goals as goal

pub returns-in-Some-clause-found : goal.returns-in-Some-clause-found
returns-in-Some-clause-found g c clean s stored name number =
    let person : c.args.person ≡ c.in-Ok.person = search rules in
    let found = subst (IsOneOf (filter (is_kept c.in-Ok.person c.args.id) stored.content.kept)) c.in-Some.is (c.in_ok-row.ensures.found clean stored.content stored.stands) in
    ap Some c.reply_of.ensures ∙ reply_found s stored.content stored.rows c.in-Ok.person c.args.id (Some c.in-Some.row) found name (number ∙ ap Some person)

pub returns-in-None-clause-found : goal.returns-in-None-clause-found
returns-in-None-clause-found g c clean s stored name number =
    let person : c.args.person ≡ c.in-Ok.person = search rules in
    let found = subst (IsOneOf (filter (is_kept c.in-Ok.person c.args.id) stored.content.kept)) c.in-None.is (c.in_ok-row.ensures.found clean stored.content stored.stands) in
    reply_found s stored.content stored.rows c.in-Ok.person c.args.id None found name (number ∙ ap Some person)

pub returns-in_err-row-clause-excused : goal.returns-in_err-row-clause-excused
returns-in_err-row-clause-excused g c is small =
    let here = c.in_err-row.ensures in
    let p = err_from_is_err_and c.from_residual.result c.from_residual.ensures.1 in
    by_content (state g.S.Store c.args.conn.now) (state g.S.Store c.kept_row_at.new.conn) here.same (here.excused (err_told c.from_residual.result p.0 _ p.1 p.2 is))
