-- What an audit finds of people and replies, and rows that are numbered without a gap.
use Rattle.std.proofs.Common.{◌≡◌, ◌∙◌, ◌+◌, ◌<◌, ◌≤◌, ℕ, true, List, ◌∷◌, drop, get_or, length, sym, ap, subst, IsPermutation}
use Rattle.std.specs.List.{list_all}
use Rattle.std.proofs.lemmas.List.{drop_more}
use Rattle.sqlite.specs.State.{State as Database}
use Rattle.tb_task.specs.Limits.{most_people}
use Rattle.tb_sql.specs.Changes.{IsPersonBefore}
use Rattle.tb_sql.specs.Opening.{IsAsBefore}
use Rattle.tb_sql_pages.specs.Last.{AreNumberedFrom}
use Rattle.tb_sql_tables.specs.declared.rows.KeptRow.{KeptRow}
use Rattle.tb_sql_tables.specs.declared.rows.PersonRow.{PersonRow}
use Rattle.tb_sql_tables.specs.Found.{AreFound}
use Rattle.tb_keeper.specs.SoundRows.{is_reply_row, AreReadAs, HasPeople}
use Rattle.tb_lookup.specs.Reopening.{OfContent}
use Rattle.tb_lookup.proofs.Standing.{stood}

module _ {X : Type 0} (key : X → ℕ) (rows : List X) (i : ℕ) (row : X) (within : i < length rows) (here : row ≡ get_or rows i row) (n : ℕ) where
  first_left : drop i rows ≡ row ∷ drop (i + 1) rows
  first_left = drop_more rows i row within ∙ ap (λ x. x ∷ drop (i + 1) rows) (sym here)

  -- those that are left are numbered from here on, where the first of them has this number and the others are numbered after it
  pub numbers_split : AreNumberedFrom key n (drop i rows) → (key row ≡ n) × AreNumberedFrom key (n + 1) (drop (i + 1) rows)
  numbers_split = subst (AreNumberedFrom key n) first_left

  pub numbers_join : (key row ≡ n) × AreNumberedFrom key (n + 1) (drop (i + 1) rows) → AreNumberedFrom key n (drop i rows)
  numbers_join = subst (AreNumberedFrom key n) (sym first_left)

-- people are found first, and then replies to them
pub people_held : (old mid new : Database) (number : ℕ) (rows : List PersonRow) (replies : List KeptRow) → IsAsBefore old mid → IsAsBefore mid new
    → OfContent old mid (λ c. AreFound IsPersonBefore c.people rows) → OfContent mid new (λ c. IsPermutation c.kept replies)
    → AreReadAs rows number → number ≤ most_people → list_all (is_reply_row number) replies ≡ true → OfContent old new (λ c. HasPeople c number)
people_held old mid new number rows replies one two of_people of_kept read few theirs clean c stands = record {
  rows = rows;
  found = of_people (two.clean clean) c stands;
  read = read;
  few = few;
  replies = replies;
  replies_found = of_kept clean c (stood c old mid stands one);
  theirs = theirs;
}
