use Rattle.tb_http.proofs.ReadingLemmas.{one_message, no_other_fault, one_fault}
use Rattle.tb_http.proofs.laws.one_reading.Goals as goal

pub returns : goal.returns
returns c = record { message = one_message; fault = no_other_fault; one_fault = one_fault }
