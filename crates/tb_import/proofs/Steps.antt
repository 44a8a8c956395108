-- The steps by which new tasks go to a board.
use Rattle.std.proofs.Common.{◌≡◌, ℕ, suc, ◌+◌, ◌<◌, List, ◌∷◌, length, get_or, drop, drop-cons, sym, ◌∙◌, ap, arith}
use Rattle.tb_task.specs.declared.incoming.Incoming.{Incoming}
use Rattle.tb_board.specs.declared.board.Board.{Board}
use Rattle.tb_import.specs.declared.entering.Entering.{Entering}
use Rattle.tb_import.specs.Entering.{orphans, with_all, with_new}
use Rattle.tb_import.specs.Known.{AreGone, IsEntered}

-- the tasks that are left make of this board what all make of the one at the start
pub record IsEnteredTo (first : Board) (all : List Incoming) (start now : Entering) (new left : List Incoming) : Type 0 where
  pub board : with_all first all now.draft.board left ≡ with_all first all start.draft.board new
  pub orphans_are : now.orphans + orphans first all now.draft.board left ≡ start.orphans + orphans first all start.draft.board new
  pub places : AreGone now.draft.board.gone now.places

pub entered_next : (first : Board) (all : List Incoming) (start now later : Entering) (new : List Incoming) (i : ℕ) (t : Incoming) → i < length new → t ≡ get_or new i t
    → IsEnteredTo first all start now new (drop i new) → IsEntered first all t now later → IsEnteredTo first all start later new (drop (i + 1) new)
entered_next first all start now later new i t within is so_far step =
    let next : i + 1 ≡ suc i = omega arith in
    let here : drop i new ≡ t ∷ drop (i + 1) new = drop-cons new i t within ∙ ap (λ x. x ∷ drop (suc i) new) (sym is) ∙ ap (λ n. t ∷ drop n new) (sym next) in
    let rest = drop (i + 1) new in
    let counted : now.orphans + orphans first all now.draft.board (t ∷ rest) ≡ start.orphans + orphans first all start.draft.board new =
    ap (λ ts. now.orphans + orphans first all now.draft.board ts) (sym here) ∙ so_far.orphans_are in
    let same : orphans first all later.draft.board rest ≡ orphans first all (with_new first all now.draft.board t) rest = ap (λ b. orphans first all b rest) step.board in
    record {
      board = ap (λ b. with_all first all b rest) step.board ∙ ap (with_all first all now.draft.board) (sym here) ∙ so_far.board;
      orphans_are = omega (arith, counted, same, step.orphans);
      places = step.places;
    }
