use Rattle.std.proofs.Common.{◌≡◌, ◌∙◌, Some, filter, rules, sym, ap, subst}
use Rattle.sqlite.specs.Held.{state}
use Rattle.tb_board.specs.Names.{read_name}
use Rattle.tb_sql.specs.Changes.{is_person}
use Rattle.tb_sql_tables.specs.Found.{IsOneOf}
use Rattle.tb_lookup.specs.Reopening.{OfContent}
use Rattle.tb_lookup.proofs.PeopleOn.{name_stored}
use Rattle.tb_lookup.proofs.people_on.stored_name.Goals as goal

pub returns-in-Ok-Some-clause-found : goal.returns-in-Ok-Some-clause-found
returns-in-Ok-Some-clause-found g c clean s stored =
    let old = state g.S.Store c.args.conn.now in
    let new = state g.S.Store c.person_row_at.new.conn in
    let number : c.in-Ok.number ≡ c.args.number = search rules in
    let found : OfContent old new (λ content. IsOneOf (filter (is_person c.in-Ok.number) content.people) (Some c.in-Some.row)) = rw c.in-Some.is at c.in_ok-row.ensures.found in
    name_stored old new c.args.number c.in-Some.row c.in-Ok-Some.name (subst (λ n. OfContent old new (λ content. IsOneOf (filter (is_person n) content.people) (Some c.in-Some.row))) number found)
    (sym c.in-Ok-Some.field-0-is ∙ c.in-Ok-Some.ensures ∙ ap read_name c.as_str.ensures) clean s stored
