use Rattle.std.proofs.Common.{◌↔◌, arith, Bor, IsTrue, List, nat_cmp, ℕ}
use Rattle.std.specs.Cmp.Lexicographic.{slice_cmp}
use Rattle.std.specs.List.{IsDistinct}
use Rattle.std.specs.Ordering.{eq_by_cmp}
use Rattle.std.specs.Str.{bytes_eq}
use Rattle.std.proofs.lemmas.Result.{IfOk-weaker}
use Rattle.tb_core.specs.GoodWorld.{names}
use Rattle.tb_good.proofs.Repeats.{texts_tell}
use Rattle.tb_good.proofs.Telling.{last_tells}
use Rattle.tb_good.proofs.people.has_good_people.Goals as goal

pub returns : goal.returns
returns c =
    let texts = c.in_ok-names.names.items in
    let all = names c.args.world.now in
    last_tells c.are_distinct.result (λ apart. record { people = omega (arith, c.if-len-gt-MOST_PEOPLE.false, c.len.ensures); apart = apart }) (λ good. good.apart)
    (IfOk-weaker c.are_distinct.result (λ r. IsTrue r ↔ IsDistinct (eq_by_cmp (λ (x y : Bor (List ℕ)). slice_cmp nat_cmp x.now y.now)) texts) (λ r. IsTrue r ↔ IsDistinct bytes_eq all)
    (λ r tells. texts_tell texts all r (rw c.as_slice.ensures at c.in_ok-names.ensures) tells) (rw c.as_slice-2.ensures.value at c.are_distinct.ensures))
