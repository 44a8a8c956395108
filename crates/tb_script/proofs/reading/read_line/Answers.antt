use Rattle.tb_script.proofs.reading.read_line.Goals as goal

pub returns : goal.returns
returns c = rw (c.as_slice.ensures.value, c.in_ok-fields.ensures) at c.read_fields.ensures
