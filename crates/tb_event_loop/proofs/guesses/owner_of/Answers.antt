use Rattle.std.proofs.Common.{◌≡◌, ◌∙◌, List, ℕ, ap}
use Rattle.tb_event_loop.specs.Guesses as guesses
use Rattle.tb_rooms.specs.Claims.{number_under}
use Rattle.tb_event_loop.proofs.guesses.owner_of.Goals as goal

pub returns : goal.returns
returns c =
    let sight = c.sight_of-sight.result in
    let text = c.args.text.now in
    let member : sight.asking.member.now ≡ guesses.member_in text = sight.member ∙ ap (λ (t : List ℕ). guesses.member_in t) c.sight_of-sight.ensures in
    let key : sight.asking.key.now ≡ guesses.key_in text = sight.key ∙ ap (λ (t : List ℕ). guesses.key_in t) c.sight_of-sight.ensures in
    c.owner.ensures ∙ (λ i. number_under (member i) (key i) c.args.rates.now.claims.claims)
