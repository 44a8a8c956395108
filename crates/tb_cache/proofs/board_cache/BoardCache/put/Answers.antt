use Rattle.std.specs.Prelude.{OnOk}
use Rattle.std.specs.Map.{lookup}
use Rattle.std.proofs.Common.{◌≡◌, Some, nat_eq, subst, ap, ◌∙◌}
use Rattle.tb_board.specs.declared.board.Board.{Board}
use Rattle.tb_board.specs.World.{find_board}
use Rattle.tb_cache.proofs.Entries.{of_put_if}
use Rattle.tb_cache.proofs.Exact.{put_there}
use Rattle.tb_cache.proofs.board_cache.BoardCache.put.Goals as goal

pub returns-clause-there : goal.returns-clause-there
returns-clause-there c =
    subst (λ n. OnOk c.put_under.result (lookup (nat_eq n) c.put_under.new.self.entries ≡ Some c.args.board)) (ap (λ (b : Board). b.number) c.get.ensures)
    (put_there c.put_under.result c.args.self.now c.put_under.new.self c.get.result.now.number c.args.board c.put_under.ensures.put)

pub returns-clause-of : goal.returns-clause-of
returns-clause-of c w are found =
    of_put_if w c.args.self.now c.put_under.new.self c.get.result.now.number c.args.board c.put_under.result c.put_under.ensures.put c.put_under.ensures.same are
    (ap (λ (b : Board). find_board w b.number) c.get.ensures ∙ found)
