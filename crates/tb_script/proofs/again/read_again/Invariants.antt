use Rattle.std.specs.Io.KnownBytes.{Keeps}
use Rattle.tb_script.proofs.again.read_again.Given as goal

-- an interrupted read takes nothing
abbrev pub invariant-tries : goal.invariant-tries
invariant-tries g l = Keeps (g.R.Read.remaining l.fn.reader) (g.R.Read.remaining l.reader)
