use Rattle.std.proofs.Common.{◌≡◌, ◌++◌, ◌∷◌, [], None}
use Rattle.tb_sending.proofs.Texts.{key_line}
use Rattle.tb_sending.proofs.beside.around.Goals as goal

pub returns-in_err-key : goal.returns-in_err-key
returns-in_err-key c key id good e =
    absurd (key_line key c.args.text.now (c.args.owner.now ++ (id ++ 10 ∷ [])) None c.in_err-key.ensures.cases good e)

pub returns-in_err-id : goal.returns-in_err-id
returns-in_err-id c key id good e =
    let cut = rw c.in_ok-key.was at (key_line key c.args.text.now (c.args.owner.now ++ (id ++ 10 ∷ [])) c.split_once.result c.split_once.ensures.cases good e) in
    let rest_is : c.in_ok-key.rest.now ≡ c.args.owner.now ++ (id ++ 10 ∷ []) = cc in
    absurd (c.in_err-id.ensures id rest_is)

pub returns : goal.returns
returns c key id good e =
    let cut = rw c.in_ok-key.was at (key_line key c.args.text.now (c.args.owner.now ++ (id ++ 10 ∷ [])) c.split_once.result c.split_once.ensures.cases good e) in
    let key_is : c.in_ok-key.key.now ≡ key = cc in
    let rest_is : c.in_ok-key.rest.now ≡ c.args.owner.now ++ (id ++ 10 ∷ []) = cc in
    let last = c.in_ok-id.ensures id rest_is in
    let id_is : c.in_ok-id.id.now ≡ id = cc in
    (key_is, id_is)
