use Rattle.std.proofs.Common.{◌∙◌, sym, ap, true≢false}
use Rattle.tb_todotxt.specs.Line.{is_blank, spell}
use Rattle.tb_todotxt.specs.Reading.{line_of}
use Rattle.tb_todotxt.proofs.Spelling.{full_line}
use Rattle.tb_todotxt.proofs.Readings.{line_spelled, line_of-spell}
use Rattle.tb_todotxt.proofs.reading.read_line.Goals as goal

pub returns-then-is_blank-clause-only : goal.returns-then-is_blank-clause-only
returns-then-is_blank-clause-only c line is spelled =
    absurd (true≢false (sym c.if-is_blank.true ∙ c.is_blank.ensures ∙ ap is_blank spelled ∙ full_line line is))

pub returns-clause-spelled : goal.returns-clause-spelled
returns-clause-spelled c =
    (line_spelled c.args.text.now (sym c.is_blank.ensures ∙ c.if-is_blank.false) c.requires).1 ∙ ap spell (sym c.in_ok-parse_line.ensures)

pub returns-clause-only : goal.returns-clause-only
returns-clause-only c line is spelled = c.in_ok-parse_line.ensures ∙ ap line_of spelled ∙ line_of-spell line is
