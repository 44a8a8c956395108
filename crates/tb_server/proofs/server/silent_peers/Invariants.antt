use Rattle.std.proofs.Common.{◌≡◌, ℕ, length}
use Rattle.tb_serve.specs.Server.{talk_at}
use Rattle.tb_serve.specs.Turns.{silent}
use Rattle.tb_server.proofs.server.silent_peers.Given as goal

-- so many connections so far, to which nothing came
abbrev pub invariant-places : goal.invariant-places
invariant-places l = record {
  silent : (c : ℕ) → talk_at l.peers.items c ≡ silent;
  places : length l.peers.items ≡ l.counter;
}
