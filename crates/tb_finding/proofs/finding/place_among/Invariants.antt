use Rattle.std.proofs.Common.{◌≡◌, ◌+◌, drop}
use Rattle.tb_finding.specs.Order.{place_among}
use Rattle.tb_finding.proofs.finding.place_among.Given as goal

abbrev pub invariant-loop-place : goal.invariant-loop-place
invariant-loop-place l = l.place + place_among l.project (drop l.place l.projects) ≡ place_among l.project l.projects
