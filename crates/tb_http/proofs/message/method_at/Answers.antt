use Rattle.tb_http.proofs.MessageLemmas.{token_is_token}
use Rattle.tb_http.proofs.message.method_at.Goals as goal

pub unreachable-requires : goal.unreachable-requires
unreachable-requires c =
    let refused = rw c.in-Err-Invalid.field-0-is at c.in-Err-Invalid.is in
    c.from_bytes.ensures.invalid.0 refused (token_is_token c.args.text.now c.requires)
