use Rattle.std.proofs.Common.{◌≡◌, ◌+◌, ℕ, None, length, drop}
use Rattle.tb_sweep.specs.Masks.{noted_at}
use Rattle.tb_board.specs.Templates.{gone_places}
use Rattle.tb_sweep.proofs.masks.blanks_for_gone.Given as goal

-- the places so far and those that are left are all
abbrev pub invariant-loop-place : goal.invariant-loop-place
invariant-loop-place l =
    record {
      size : length l.marks.items + length (gone_places l.id (drop l.place-index l.gone)) ≡ length (gone_places l.id l.gone);
      blank : (k : ℕ) → noted_at l.marks.items k ≡ None;
    }
