-- What is known while new tasks go to a board.
use Rattle.std.specs.Prelude.{◌≡◌, ℕ, ◌+◌, List}
use Rattle.tb_task.specs.declared.incoming.Incoming.{Incoming}
use Rattle.tb_board.specs.declared.board.Board.{Board}
use Rattle.tb_board.specs.declared.gone.Gone.{Gone}
use Rattle.tb_import.specs.declared.entering.Entering.{Entering}
use Rattle.tb_import.specs.declared.entering.Known.{Known}
use Rattle.tb_import.specs.declared.places.Places.{Places}
use Rattle.tb_import.specs.Entering.{is_gone, is_orphan, is_parent, one_if, takes, with_new}
use Rattle.tb_import.specs.News.{is_there}
use Rattle.tb_import.specs.Sets.{has, has_place}

-- of the board and the new tasks
pub record IsKnown (first : Board) (new : List Incoming) (known : Known) : Type 0 where
  pub ids : (q : ℕ) → has known.ids q ≡ is_there first new q
  pub parents : (q : ℕ) → has known.parents q ≡ is_parent first new q

abbrev pub AreGone : List Gone → Places → Type 0
AreGone gs places = (id k : ℕ) → has_place places id k ≡ is_gone gs id k

-- one task more is on the board
pub record IsEntered (first : Board) (new : List Incoming) (i : Incoming)
    (old later : Entering) : Type 0 where
  pub board : later.draft.board ≡ with_new first new old.draft.board i
  pub places : AreGone later.draft.board.gone later.places
  pub orphans : later.orphans
      ≡ old.orphans + one_if (is_orphan (takes first new old.draft.board.gone i) i)
