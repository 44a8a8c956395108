use Rattle.std.proofs.Common.{sym, subst}
use Rattle.tb_todotxt.specs.Line.{IsLine}
use Rattle.tb_todotxt.proofs.Readings.{line_spelled}
use Rattle.tb_todotxt.proofs.reading.parse_line.Goals as goal

pub from_parts-requires : goal.from_parts-requires
from_parts-requires c = subst IsLine (sym c.in_ok-parts.ensures) (line_spelled c.args.text.now c.requires.full c.requires.one_line).0
