use Rattle.std.proofs.lemmas.Result.{IfOk-weaker}
use Rattle.tb_core.proofs.Decided.{role_applies, take_applies}
use Rattle.tb_core.proofs.Shapes.{board_shape, key_shape, own_shape, person_shape}
use Rattle.tb_core.proofs.deciding.decide.Goals as goal

pub returns-in-SetRole-clause-decided : goal.returns-in-SetRole-clause-decided
returns-in-SetRole-clause-decided c =
    IfOk-weaker c.decide_role.result _ _
    (λ d decides w name is.
    let here = rw c.in-SetRole.is at is in
    rw c.in-SetRole.is (role_applies w c.args.seen.now name c.in-SetRole.board c.in-SetRole.name c.in-SetRole.role c.args.at d here (decides w name _ _ here)))
    c.decide_role.ensures.decided

pub returns-in-NewPerson-clause-shape : goal.returns-in-NewPerson-clause-shape
returns-in-NewPerson-clause-shape c =
    IfOk-weaker c.decide_person.result _ _ (λ d is. person_shape c.args.seen.now _ _ d is) c.decide_person.ensures.decided

pub returns-in-NewBoard-clause-shape : goal.returns-in-NewBoard-clause-shape
returns-in-NewBoard-clause-shape c =
    IfOk-weaker c.decide_board.result _ _ (λ d is. board_shape c.args.seen.now _ d is) c.decide_board.ensures.decided

pub returns-in-Take-clause-decided : goal.returns-in-Take-clause-decided
returns-in-Take-clause-decided c =
    IfOk-weaker c.decide_take.result _ _
    (λ d decides w name is.
    let here = rw c.in-Take.is at is in
    rw c.in-Take.is (take_applies w c.args.seen.now name c.in-Take.board c.args.at d here (decides w name _ here)))
    c.decide_take.ensures.decided

pub returns-in-OwnKey-clause-shape : goal.returns-in-OwnKey-clause-shape
returns-in-OwnKey-clause-shape c =
    IfOk-weaker c.decide_own_key.result _ _ (λ d is. own_shape c.args.seen.now.own _ _ d is) c.decide_own_key.ensures.decided

pub returns-in-SetKey-clause-shape : goal.returns-in-SetKey-clause-shape
returns-in-SetKey-clause-shape c =
    IfOk-weaker c.decide_key.result _ _ (λ d is. key_shape c.args.seen.now _ _ d is) c.decide_key.ensures.decided
