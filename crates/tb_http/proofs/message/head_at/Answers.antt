use Rattle.tb_http.proofs.MessageLemmas.{method_is_token, target_is_text}
use Rattle.tb_http.proofs.message.head_at.Goals as goal

pub method_at-requires : goal.method_at-requires
method_at-requires c = rw c.of-method.ensures (method_is_token c.args.bytes.now c.args.headers.now c.args.spans c.requires.found)

pub target_at-requires : goal.target_at-requires
target_at-requires c = rw c.of-target.ensures (target_is_text c.args.bytes.now c.args.headers.now c.args.spans c.requires.found)
