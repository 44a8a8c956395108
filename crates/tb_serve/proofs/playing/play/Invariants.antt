use Rattle.std.proofs.Common.{◌≡◌, length, take, true}
use Rattle.tb_calls.specs.Call.{State}
use Rattle.tb_calls.specs.Leaving.{Only}
use Rattle.tb_serve.specs.Server.{Plays, done_at, talk_at}
use Rattle.tb_serve.proofs.playing.play.Given as goal

-- so far a run of the server was made
abbrev pub invariant-loop-entry : goal.invariant-loop-entry
invariant-loop-entry g l =
    let k = g.K.Keep in
    record {
      count : length l.peers ≡ length l.fn.peers;
      honest : k.is_honest l.desk ≡ true → k.is_honest l.fn.desk ≡ true;
      plays : k.is_honest l.desk ≡ true → (s : State) → k.holds l.fn.desk s → Only s (k.after_stop l.fn.desk)
          → Plays l.paths.site s (done_at (length l.fn.peers) (take l.entry-index l.happenings)) (talk_at l.fn.peers) (talk_at l.peers)
          (k.holds l.desk) (k.after_stop l.desk);
    }
