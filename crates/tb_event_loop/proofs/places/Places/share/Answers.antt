use Rattle.std.proofs.Common.{◌≡◌, true, ap, rules, subst, sym}
use Rattle.tb_event_loop.specs.Sharing.{SharesIf}
use Rattle.tb_event_loop.specs.declared.places.Places.{Places}
use Rattle.tb_event_loop.proofs.places.Places.share.Goals as goal

pub returns : goal.returns
returns c =
    let left = c.make_way.new.self in
    let still : Places = record left { is_tight = c.is_tight_in-self.result } in
    let tight : c.args.self.now.is_tight ≡ true = search rules in
    let waits = rw c.deref.ensures.value at c.is_tight_in-self.ensures in
    subst (λ b. SharesIf b c.args.self.now still c.args.now) (sym tight)
    (c.let_all_in.new.self, left, c.let_all_in.ensures, c.make_way.ensures, ap (λ b. record left { is_tight = b }) waits)
