use Rattle.tb_http.proofs.StreamLemmas.{brings_more, one_stream}
use Rattle.tb_http.proofs.laws.one_stream.Goals as goal

pub returns : goal.returns
returns c = record { more = brings_more; one = one_stream }
