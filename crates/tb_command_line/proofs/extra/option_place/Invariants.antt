use Rattle.std.proofs.Common.{◌≡◌, ◌+◌, ◌-◌, ◌≤◌, drop, length, map}
use Rattle.tb_command_line.specs.Extra.{option_place}
use Rattle.tb_command_line.proofs.extra.option_place.Given as goal

abbrev pub invariant-loop-place : goal.invariant-loop-place
invariant-loop-place l =
    (l.place ≤ length l.words)
    × (l.place + option_place l.name (drop l.place (map (λ word. word.now) l.words)) ≡ option_place l.name (map (λ word. word.now) l.words))

abbrev pub decreases-loop-place : goal.decreases-loop-place
decreases-loop-place l = length l.words - l.place
