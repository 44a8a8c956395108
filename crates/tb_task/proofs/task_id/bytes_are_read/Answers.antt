use Rattle.uuid.proofs.OrderLemmas.{from_be_bytes-to_be_bytes_16}
use Rattle.tb_task.proofs.task_id.bytes_are_read.Goals as goal

pub returns : goal.returns
returns c = from_be_bytes-to_be_bytes_16
