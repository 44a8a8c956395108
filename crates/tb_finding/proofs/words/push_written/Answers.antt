use Rattle.std.proofs.lemmas.Str.{IsUtf8-from_ascii}
use Rattle.tb_finding.proofs.words.push_written.Goals as goal

pub unreachable-requires : goal.unreachable-requires
unreachable-requires c = c.in-Err.ensures.cases.0 (IsUtf8-from_ascii c.write.result c.write.ensures.ascii)
