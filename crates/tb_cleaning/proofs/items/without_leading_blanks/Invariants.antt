use Rattle.std.proofs.Common.{◌≡◌, length}
use Rattle.tb_json.specs.Lines.{skip_blanks}
use Rattle.tb_cleaning.proofs.items.without_leading_blanks.Given as goal

abbrev pub invariant-loop-first : goal.invariant-loop-first
invariant-loop-first l = skip_blanks l.rest ≡ skip_blanks l.fn.line

abbrev pub decreases-loop-first : goal.decreases-loop-first
decreases-loop-first l = length l.rest
