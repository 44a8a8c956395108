use Rattle.tb_calls.proofs.NoFloats.{answer_without_float}
use Rattle.tb_calls.proofs.writing.reply_to.Goals as goal

pub write_reply-requires : goal.write_reply-requires
write_reply-requires c = let e = c.in_ok-body-in-Ok.ensures in rw e (answer_without_float c.in-Ok.answer)
