use Rattle.std.specs.Io.KnownBytes.{Keeps}
use Rattle.tb_script.proofs.again.write_again.Given as goal

-- an interrupted write puts nothing
abbrev pub invariant-tries : goal.invariant-tries
invariant-tries g l = Keeps (g.W.Write.contents l.fn.writer) (g.W.Write.contents l.writer)
