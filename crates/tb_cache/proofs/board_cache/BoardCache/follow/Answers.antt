use Rattle.std.proofs.Common.{◌∙◌, ◌<◌, sym, subst, length, arith}
use Rattle.std.proofs.lemmas.List.Elements.{Contains-get_or}
use Rattle.std.specs.Prelude.{Contains}
use Rattle.tb_cache.specs.BoardCache.{AreOf}
use Rattle.tb_cache.proofs.Exact.{all_more}
use Rattle.tb_cache.proofs.Follows.{changed_more}
use Rattle.tb_cache.proofs.board_cache.BoardCache.follow.Goals as goal

pub loop-change-preserved : goal.loop-change-preserved
loop-change-preserved c =
    let changes = c.args.changes.now in
    let i = c.loop-change.change-index in
    let change = c.change-item.result in
    let within : i < length changes = omega arith in
    record {
      all = all_more c.loop-change.ended c.follow_one.result c.and-ended.result c.loop-change.self.entries c.follow_one.new.self.entries c.args.self.now.entries changes i change within c.change-item.is
          c.and-ended.ensures c.loop-change.invariant.all c.follow_one.ensures.all;
      others = λ n none.
          c.follow_one.ensures.others n (none change (subst (Contains changes) (sym c.change-item.is) (Contains-get_or changes i change within)))
          ∙ c.loop-change.invariant.others n none;
      of = λ w are.
          subst (λ v. AreOf v c.follow_one.new.self.entries) (sym (changed_more w changes i change within c.change-item.is))
          (c.follow_one.ensures.of _ (c.loop-change.invariant.of w are));
    }
