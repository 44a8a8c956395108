use Rattle.std.proofs.lemmas.Str.{IsUtf8-from_ascii}
use Rattle.tb_my.proofs.dates.read_date.Goals as goal

pub unreachable-requires : goal.unreachable-requires
unreachable-requires c = c.in-Err.ensures.cases.0 (IsUtf8-from_ascii c.date_bytes.result c.date_bytes.ensures.ascii)
