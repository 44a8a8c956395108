use Rattle.std.proofs.Common.{◌≡◌, ℕ, drop, take}
use Rattle.std.specs.Prelude.{OnOk, nat_eq}
use Rattle.std.specs.Map.{lookup}
use Rattle.tb_board.specs.Changing.{changed}
use Rattle.tb_board.specs.declared.world.World.{World}
use Rattle.tb_cache.specs.BoardCache.{AreOf}
use Rattle.tb_cache.specs.Following.{TouchesNone, followed}
use Rattle.tb_cache.proofs.board_cache.BoardCache.follow.Given as goal

-- unless one of them went, the changes that are left make of the boards at hand what all of them make of the first ones
abbrev pub invariant-loop-change : goal.invariant-loop-change
invariant-loop-change l =
    record {
      all : OnOk l.ended (followed l.self.entries (drop l.change-index l.changes) ≡ followed l.fn.self.entries l.changes);
      others : (n : ℕ) → TouchesNone n l.changes → lookup (nat_eq n) l.self.entries ≡ lookup (nat_eq n) l.fn.self.entries;
      of : (w : World) → AreOf w l.fn.self.entries → AreOf (changed w (take l.change-index l.changes)) l.self.entries;
    }
