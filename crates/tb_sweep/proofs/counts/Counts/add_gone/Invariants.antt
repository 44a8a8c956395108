use Rattle.std.proofs.Common.{◌≡◌, ◌+◌, ℕ, min, length, drop}
use Rattle.tb_board.specs.Templates.{gone_places}
use Rattle.tb_sweep.specs.Counts.{number_at}
use Rattle.tb_sweep.proofs.counts.Counts.add_gone.Given as goal

-- those counted and those that are left are all
abbrev pub invariant-loop-place : goal.invariant-loop-place
invariant-loop-place l =
    (q : ℕ) → min 2932898 (number_at l.self q + length (gone_places q (drop l.place-index l.gone))) ≡ min 2932898 (number_at l.fn.self q + length (gone_places q l.gone))
