-- What a list of changes does to the content.
use Rattle.std.specs.Prelude.{List, fold}
use Rattle.tb_sql_tables.specs.declared.rows.KeptRow.{KeptRow}
use Rattle.tb_sql_tables.specs.Content.{Content, nothing}
use Rattle.tb_sql.specs.declared.changes.RowChange.{RowChange}
use Rattle.tb_sql.specs.declared.changes.RowChange.TheVariants.{AddPerson, SetSecret, AddBoard, SetTitle, SetLow, AddRole, RemoveRole, AddTask, SetText, SetMask, AddLink, RemoveLinks, AddInstance, AddGone, RemoveGone, AddHorizon, SetHorizon, AddEntry}
use Rattle.tb_sql_pages.specs.Entries.{with_entry}
use Rattle.tb_sql.specs.Changes.{with_person, with_secret, with_board, with_title, with_low, with_role, without_role, with_task, with_text, with_mask, with_link, without_links, with_instance, with_gone, without_gone, with_kept, with_horizon, with_ahead}

abbrev pub changed_by : RowChange → Content → Content
changed_by (AddPerson person) = with_person person
changed_by (SetSecret name secret) = with_secret name secret
changed_by (AddBoard board) = with_board board
changed_by (SetTitle board title) = with_title board title
changed_by (SetLow board low) = with_low board low
changed_by (AddRole role) = with_role role
changed_by (RemoveRole board person) = without_role board person
changed_by (AddTask task) = with_task task
changed_by (SetText board place body mask) = with_text board place body mask
changed_by (SetMask board place mask) = with_mask board place mask
changed_by (AddLink link) = with_link link
changed_by (RemoveLinks board place) = without_links board place
changed_by (AddInstance instance) = with_instance instance
changed_by (AddGone gone) = with_gone gone
changed_by (RemoveGone board template imask) = without_gone board template imask
changed_by (AddHorizon horizon) = with_horizon horizon
changed_by (SetHorizon board ahead) = with_ahead board ahead
changed_by (AddEntry entry) = with_entry entry

-- the changes one after the other
abbrev pub changed_by_all : List RowChange → Content → Content
changed_by_all changes content = fold (λ c change. changed_by change c) content changes

-- the reply is kept, and the changes are made
-- Rule: a call's changes and its reply are one transaction. Tried by stopped_at_each_write.
abbrev pub written : List RowChange → KeptRow → Content → Content
written changes kept content = changed_by_all changes (with_kept kept content)

-- a store that has what these changes put into it alone
abbrev pub opening : List RowChange → Content
opening changes = changed_by_all changes nothing
