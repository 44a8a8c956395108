use Rattle.std.proofs.Common.{◌≤◌, ap, arith, length}
use Rattle.tb_program.proofs.TextLemmas.{read_whole}
use Rattle.tb_program.proofs.input.read_text.Goals as goal

pub returns-clause-whole : goal.returns-clause-whole
returns-clause-whole g c =
    let bytes = rw (c.take.ensures.limit, c.take.ensures.inner, c.new-bytes.ensures.items) at c.in-Ok.ensures.bytes in
    let size = ap length c.from_vec-text.ensures in
    let short : length c.read_to_end.new.buf.items ≤ 1048576 = omega (arith, c.len.ensures, size) in
    rw c.from_vec-text.ensures (read_whole (g.R.Read.remaining c.args.reader) 1048576 c.read_to_end.new.buf.items bytes short)
