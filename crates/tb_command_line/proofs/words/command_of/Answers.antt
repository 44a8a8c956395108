use Rattle.std.proofs.Common.{map, sym}
use Rattle.tb_command_line.proofs.Apart.{told_apart}
use Rattle.tb_command_line.proofs.words.command_of.Goals as goal

pub returns-in-Some-clause-listed : goal.returns-in-Some-clause-listed
returns-in-Some-clause-listed c request is plain =
    absurd (told_apart (map (λ word. word.now) c.args.words.now) c.in-Some.order request (sym c.in-Some.ensures) is plain)
