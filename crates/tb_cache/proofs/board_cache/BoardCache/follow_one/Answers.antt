use Rattle.std.proofs.Common.{◌≡◌, sym, ◌∙◌, subst, ap}
use Rattle.std.specs.Prelude.{OnOk}
use Rattle.lru.specs.LruCache.{LruCache}
use Rattle.tb_board.specs.declared.board.Board.{Board}
use Rattle.tb_board.specs.Changing.{changed_by}
use Rattle.tb_cache.specs.BoardCache.{AreOf}
use Rattle.tb_cache.specs.Following.{changed_at, followed_by}
use Rattle.tb_cache.proofs.Entries.{of_put_if}
use Rattle.tb_cache.proofs.Exact.{AreOthers, all_absent, all_followed, others_followed, others_left}
use Rattle.tb_cache.proofs.Follows.{found_in, of_left, of_untouched}
use Rattle.tb_cache.proofs.board_cache.BoardCache.follow_one.Goals as goal

pub returns-in_default-clause-all : goal.returns-in_default-clause-all
returns-in_default-clause-all c = sym (ap (changed_at c.args.self.now.entries c.args.change.now) (sym (sym c.in_default.is ∙ c.touched.ensures)))

pub returns-in_default-clause-of : goal.returns-in_default-clause-of
returns-in_default-clause-of c w are = of_untouched w c.args.change.now _ (sym (sym c.in_default.is ∙ c.touched.ensures)) are

pub returns-in_default-pop-clause-all : goal.returns-in_default-pop-clause-all
returns-in_default-pop-clause-all c =
    subst (λ (k : LruCache _ Board). c.pop.new.self.entries ≡ followed_by k.entries c.args.change.now) c.self.view_is
    (all_absent c.args.change.now c.in-Some.number c.self.inside.boards _ c.pop.new.self (sym c.touched.ensures ∙ c.in-Some.is) c.pop.ensures.entries c.len-apart.ensures.valid (sym c.pop.ensures.value ∙ c.in_default-pop.is))

pub returns-in_default-pop-clause-others : goal.returns-in_default-pop-clause-others
returns-in_default-pop-clause-others c =
    subst (AreOthers c.args.change.now c.pop.new.self) c.self.view_is
    (others_left c.args.change.now c.in-Some.number c.self.inside.boards _ c.pop.new.self (sym c.touched.ensures ∙ c.in-Some.is) c.pop.ensures.entries c.len-apart.ensures.valid)

pub returns-in_default-pop-clause-of : goal.returns-in_default-pop-clause-of
returns-in_default-pop-clause-of c w are =
    let was = subst (λ (k : LruCache _ Board). AreOf w k.entries) (sym c.self.view_is) are in
    of_left w c.args.change.now c.in-Some.number _ _ (sym c.touched.ensures ∙ c.in-Some.is) c.pop.ensures.entries c.len-apart.ensures.valid.0 was

pub returns-in_err-later-clause-others : goal.returns-in_err-later-clause-others
returns-in_err-later-clause-others c =
    subst (AreOthers c.args.change.now c.pop.new.self) c.self.view_is
    (others_left c.args.change.now c.in-Some.number c.self.inside.boards _ c.pop.new.self (sym c.touched.ensures ∙ c.in-Some.is) c.pop.ensures.entries c.len-apart.ensures.valid)

pub returns-in_err-later-clause-of : goal.returns-in_err-later-clause-of
returns-in_err-later-clause-of c w are =
    let was = subst (λ (k : LruCache _ Board). AreOf w k.entries) (sym c.self.view_is) are in
    of_left w c.args.change.now c.in-Some.number _ _ (sym c.touched.ensures ∙ c.in-Some.is) c.pop.ensures.entries c.len-apart.ensures.valid.0 was

pub returns-in_err-later-2-clause-others : goal.returns-in_err-later-2-clause-others
returns-in_err-later-2-clause-others c =
    subst (AreOthers c.args.change.now c.pop.new.self) c.self.view_is
    (others_left c.args.change.now c.in-Some.number c.self.inside.boards _ c.pop.new.self (sym c.touched.ensures ∙ c.in-Some.is) c.pop.ensures.entries c.len-apart.ensures.valid)

pub returns-in_err-later-2-clause-of : goal.returns-in_err-later-2-clause-of
returns-in_err-later-2-clause-of c w are =
    let was = subst (λ (k : LruCache _ Board). AreOf w k.entries) (sym c.self.view_is) are in
    of_left w c.args.change.now c.in-Some.number _ _ (sym c.touched.ensures ∙ c.in-Some.is) c.pop.ensures.entries c.len-apart.ensures.valid.0 was

pub returns-clause-all : goal.returns-clause-all
returns-clause-all c =
    subst (λ (k : LruCache _ Board). OnOk c.put_under.result (c.put_under.new.self.entries ≡ followed_by k.entries c.args.change.now)) c.self.view_is
    (all_followed c.args.change.now c.in-Some.number c.self.inside.boards c.pop.new.self c.put_under.new.self (sym c.touched.ensures ∙ c.in-Some.is) c.pop.ensures.entries c.len-apart.ensures.valid
    c.in-Some-pop.board c.in_ok-later-2.later (sym c.in-Some-pop.is ∙ c.pop.ensures.value) (c.in_ok-later-2.ensures ∙ c.settled.ensures ∙ c.in_ok-later.ensures) c.put_under.result c.put_under.ensures.put)

pub returns-clause-others : goal.returns-clause-others
returns-clause-others c =
    subst (AreOthers c.args.change.now c.put_under.new.self) c.self.view_is
    (others_followed c.args.change.now c.in-Some.number c.self.inside.boards c.pop.new.self c.put_under.new.self (sym c.touched.ensures ∙ c.in-Some.is) c.pop.ensures.entries c.len-apart.ensures.valid
    c.in-Some-pop.board c.in_ok-later-2.later (sym c.in-Some-pop.is ∙ c.pop.ensures.value) (c.in_ok-later-2.ensures ∙ c.settled.ensures ∙ c.in_ok-later.ensures) c.put_under.result c.put_under.ensures.put c.put_under.ensures.same)

pub returns-clause-of : goal.returns-clause-of
returns-clause-of c w are =
    let was = subst (λ (k : LruCache _ Board). AreOf w k.entries) (sym c.self.view_is) are in
    let one = sym c.touched.ensures ∙ c.in-Some.is in
    let left = of_left w c.args.change.now c.in-Some.number _ _ one c.pop.ensures.entries c.len-apart.ensures.valid.0 was in
    of_put_if (changed_by w c.args.change.now) c.pop.new.self c.put_under.new.self c.in-Some.number c.in_ok-later-2.later c.put_under.result c.put_under.ensures.put c.put_under.ensures.same left
    (found_in w c.args.change.now c.in-Some.number c.self.inside.boards c.in-Some-pop.board c.in_ok-later-2.later one (sym c.in-Some-pop.is ∙ c.pop.ensures.value) (c.in_ok-later-2.ensures ∙ c.settled.ensures ∙ c.in_ok-later.ensures) was)
