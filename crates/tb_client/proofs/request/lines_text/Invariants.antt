use Rattle.std.proofs.Common.{◌≡◌, ◌++◌, drop}
use Rattle.tb_client.specs.Request.{lines_text}
use Rattle.tb_client.proofs.request.lines_text.Given as goal

abbrev pub invariant-loop-line : goal.invariant-loop-line
invariant-loop-line l = l.text ++ lines_text (drop l.line-index l.lines) ≡ lines_text l.lines
