use Rattle.std.proofs.Common.{◌∙◌, ap, arith, length, sym, take}
use Rattle.std.proofs.lemmas.List.{take_all}
use Rattle.tb_orders.proofs.new_key.first_line.Goals as goal

pub returns-in-Some : goal.returns-in-Some
returns-in-Some c =
    let cut = rw c.in-Some.is at (c.split_once.ensures.byte (omega arith) (λ w o finds. finds)) in
    cut.0

pub returns-in-None : goal.returns-in-None
returns-in-None c =
    let text = c.args.text.now in
    let none = rw c.in-None.is at (c.split_once.ensures.byte (omega arith) (λ w o finds. finds)) in
    sym (ap (λ n. take n text) none ∙ take_all (length text) text (omega arith))
