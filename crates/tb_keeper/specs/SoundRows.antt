-- Which rows of people, replies and roles a state can have, and how boards are numbered.
use Rattle.std.specs.Prelude.{◌≡◌, ◌≤◌, ◌==◌, ◌&&◌, ◌||◌, ℕ, Bool, true, List, [], Ok, length, nat_le, nat_lt, IsPermutation}
use Rattle.std.specs.List.{list_all}
use Rattle.tb_board.specs.declared.world.Person.{Person}
use Rattle.tb_task.specs.Limits.{most_people}
use Rattle.tb_sql_tables.specs.declared.rows.BoardRow.{BoardRow}
use Rattle.tb_sql_tables.specs.declared.rows.KeptRow.{KeptRow}
use Rattle.tb_sql_tables.specs.declared.rows.PersonRow.{PersonRow}
use Rattle.tb_sql_tables.specs.declared.rows.RoleRow.{RoleRow}
use Rattle.tb_sql_tables.specs.Content.{Content}
use Rattle.tb_sql_tables.specs.Found.{AreFound}
use Rattle.tb_sql.specs.Changes.{IsPersonBefore}
use Rattle.tb_sql_pages.specs.Last.{AreNumberedFrom}
use Rattle.tb_rows.specs.Reading.{people_in}

-- the number of one of so many people, who are numbered from 1
abbrev pub is_number_of : ℕ → ℕ → Bool
is_number_of people n = nat_lt 0 n && nat_le n people

-- a reply to one of so many people; its number has 8 bits, and its status 16
abbrev pub is_reply_row : ℕ → KeptRow → Bool
is_reply_row people row =
    is_number_of people row.person && (nat_lt row.number 256 && nat_lt row.status 65536)

-- an owner, a member or a reader
abbrev pub is_role_kind : ℕ → Bool
is_role_kind kind = (kind == 1) || ((kind == 2) || (kind == 3))

-- a role of one of so many people
abbrev pub is_role_row : ℕ → RoleRow → Bool
is_role_row people row = is_role_kind row.kind && is_number_of people row.person

abbrev pub AreNumbered : List BoardRow → Type 0
AreNumbered rows = AreNumberedFrom (λ (row : BoardRow). row.id) 1 rows

-- these rows number so many people from 1, and each can be read
abbrev pub AreReadAs : List PersonRow → ℕ → Type 0
AreReadAs rows number =
    (people : List Person) × (people_in [] rows ≡ Ok people) × (length people ≡ number)

-- The content has so many people, who are numbered from 1 and can be read, and each kept reply is to one of them.
pub record HasPeople (c : Content) (number : ℕ) : Type 0 where
  pub rows : List PersonRow
  pub found : AreFound IsPersonBefore c.people rows
  pub read : AreReadAs rows number
  pub few : number ≤ most_people
  pub replies : List KeptRow
  pub replies_found : IsPermutation c.kept replies
  pub theirs : list_all (is_reply_row number) replies ≡ true
