use Rattle.std.proofs.Common.{◌∙◌, nat_eq, sym, ap, subst}
use Rattle.std.specs.Map.{lookup}
use Rattle.lru.specs.LruCache.{LruCache}
use Rattle.tb_board.specs.declared.board.Board.{Board}
use Rattle.tb_cache.specs.BoardCache.{AreOf}
use Rattle.tb_cache.proofs.Entries.{of_promoted}
use Rattle.tb_cache.proofs.Exact.{promoted_there}
use Rattle.tb_cache.proofs.board_cache.BoardCache.look.Goals as goal

pub returns-clause-there : goal.returns-clause-there
returns-clause-there c =
    c.in_ok-found.ensures ∙ ap (λ (k : LruCache _ Board). lookup (nat_eq c.args.number) k.entries) (sym c.self.view_is) ∙ sym (promoted_there c.args.number c.self.inside.boards.entries)
    ∙ ap (λ (k : LruCache _ Board). lookup (nat_eq c.args.number) k.entries) (sym c.promote-there.ensures.entries)

pub returns-clause-of : goal.returns-clause-of
returns-clause-of c w are =
    let was = subst (λ (k : LruCache _ Board). AreOf w k.entries) (sym c.self.view_is) are in
    subst (λ (k : LruCache _ Board). AreOf w k.entries) (sym c.promote-there.ensures.entries) (of_promoted w _ c.self.inside.boards.entries was)
